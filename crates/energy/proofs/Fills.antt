-- What the loop over a file's pings carries: the energies told and those to come are all, and the rows keep the channels declared so far.
-- Assumes nothing.
use mathlib.Core.Path.{◌≡◌, refl, sym, ap, ap₂, subst, ◌∙◌}
use mathlib.Core.Bool.{Bool, true, false}
use mathlib.Core.List.{List, [], ◌∷◌, ◌++◌, map, map-append, map-map, append-nil, append_assoc}
use Prim.Native.Nat.{ℕ, ◌+◌, ◌≤◌, ◌<◌}
use native.Mathlib.Omega.{arith}
use lib.ListN.{length, drop, get_or, set, length-append, length-map}
use lib.Seq.{sets, length-sets}
use Rattle.order.proofs.Stores.{stored-behind}
use Rattle.layout.specs.declared.Counts.{Counts}
use Rattle.layout.specs.Answer.{Accepted}
use Rattle.layout.specs.Types.{is_ping}
use Rattle.frame.specs.Frames.{len_at, kind_at}
use Rattle.frame.specs.Files.{is_msb}
use Rattle.links.specs.Links.{id_of, place_of, most_channels}
use Rattle.links.specs.inner.Tables.{channel_of, channels_in}
use Rattle.intake.specs.Check.{check_file}
use Rattle.intake.specs.inner.Tallies.{named_at}
use Rattle.intake.specs.inner.Sound.{Accepts}
use Rattle.quantities.specs.declared.Quantity.{Quantity}
use Rattle.quantities.specs.Quantities.{quantity_of}
use Rattle.linked.specs.Linked.{Linked, linked_of, standing}
use Rattle.linked.specs.inner.Here.{FoundPing, new_here, Past}
use Rattle.linked.proofs.Places.{standing-told}
use Rattle.linked.proofs.Along.{telling-done, telling-whole, telling-tells, linked-at, linked-place, linked-part, linked-says}
use Rattle.linked.proofs.Along.{Along, along-begin, along-other, along-ping, along-quantity}
use Rattle.energy.specs.Echo.{Echo}
use Rattle.energy.specs.Energy.{energy_at, sum_in, code_in, places_of, energies_of, codes_of}
use Rattle.energy.specs.inner.Telling.{echo_here}
use Rattle.energy.proofs.Echoes.{found_echo}

-- ---- a slice that holds a number of each ping told, and one more
column : (key : Linked → ℕ) (out₀ : List ℕ) {out next : List ℕ} (done : List Linked) (l : Linked) {row v : ℕ}
    → out ≡ sets out₀ 0 (map key done)
    → row ≡ length done
    → v ≡ key l
    → next ≡ set out row v
    → next ≡ sets out₀ 0 (map key (done ++ (l ∷ [])))
column key out₀ done l {row} before many is stored =
    stored
    ∙ ap₂ (λ (x : List ℕ) (n : ℕ). set x row n) before is
    ∙ stored-behind (map key done) (key l ∷ []) out₀ 0 row (omega (arith, many, length-map done key))
    ∙ ap (sets out₀ 0) (sym (map-append key done (l ∷ [])))

-- ---- the three slices
pub record Slices : Type 0 where
  pub places : List ℕ
  pub energies : List ℕ
  pub codes : List ℕ

abbrev pub slices : List ℕ → List ℕ → List ℕ → Slices
slices ps es cs = record { places = ps; energies = es; codes = cs }

abbrev pub energy_for : List ℕ → Linked → ℕ
energy_for f l = sum_in (energy_at f l.place)

abbrev pub code_for : List ℕ → Linked → ℕ
code_for f l = code_in (energy_at f l.place)

-- with what is told of pings stored from their first element on
pub record Stored (f : List ℕ) (a : Slices) (done : List Linked) (b : Slices) : Type 0 where
  pub places : b.places ≡ sets a.places 0 (map (λ (l : Linked). l.place) done)
  pub energies : b.energies ≡ sets a.energies 0 (map (energy_for f) done)
  pub codes : b.codes ≡ sets a.codes 0 (map (code_for f) done)

-- the same
pub record Kept (b c : Slices) : Type 0 where
  pub places : c.places ≡ b.places
  pub energies : c.energies ≡ b.energies
  pub codes : c.codes ≡ b.codes

-- with a ping's place, energy and code stored on a row
pub record Put (b : Slices) (row at units code : ℕ) (c : Slices) : Type 0 where
  pub places : c.places ≡ set b.places row at
  pub energies : c.energies ≡ set b.energies row units
  pub codes : c.codes ≡ set b.codes row code

pub record Filling (f : List ℕ) (a : Slices) (o : Bool) (at used row : ℕ) (rows : List (List ℕ)) (b : Slices) : Type 0 where
  pub done : List Linked
  pub along : Along (λ (ls : List Linked). done ++ ls) (linked_of f) f o at used rows
  pub told : row ≡ length done
  pub few : row ≤ at
  pub stored : Stored f a done b

pub filling_begin : (f : List ℕ) (a : Slices) (o : Bool) (rows : List (List ℕ)) → Accepts f → o ≡ is_msb f → length rows ≡ most_channels
    → Filling f a o 4 0 0 rows a
filling_begin f a o rows x e l =
    record {
      done = [];
      along = along-begin (λ ls. [] ++ ls) f o rows x e l;
      told = refl;
      few = omega arith;
      stored = record { places = refl; energies = refl; codes = refl };
    }

module _ {f : List ℕ} {a : Slices} {o : Bool} {at used row : ℕ} {rows : List (List ℕ)} {b : Slices}
    (g : Filling f a o at used row rows b) where
  pub filling_long : (length b.places ≡ length a.places) × (length b.energies ≡ length a.energies)
      × (length b.codes ≡ length a.codes)
  filling_long = (
    ap length g.stored.places ∙ simp length-sets,
    ap length g.stored.energies ∙ simp length-sets,
    ap length g.stored.codes ∙ simp length-sets,
  )

  -- at the end of the file all are told
  pub filling_done : length f ≤ at
      → (b.places ≡ sets a.places 0 (places_of f)) × (b.energies ≡ sets a.energies 0 (energies_of f))
      × (b.codes ≡ sets a.codes 0 (codes_of f))
  unfolding places_of energies_of codes_of
  filling_done h =
      let all = sym (append-nil g.done) ∙ telling-done g.along.telling h in
      let s = subst (λ (ls : List Linked). Stored f a ls b) all g.stored in (
        s.places,
        s.energies ∙ ap (sets a.energies 0) (sym (map-map _ _ (linked_of f))),
        s.codes ∙ ap (sets a.codes 0) (sym (map-map _ _ (linked_of f))),
      )

  module _ (h : at < length f) (n k : ℕ) (en : n ≡ len_at o (drop at f)) (ek : k ≡ kind_at o (drop at f)) where
    pub filling_other : is_ping k ≡ false → (next : ℕ) (c : Slices) → next ≡ row → Kept b c
        → (m : ℕ) (rows' : List (List ℕ)) → Past used rows (new_here o f at) m rows'
        → Filling f a o (at + n) m next rows' c
    filling_other z next c e w m rows' p =
        record {
          done = g.done;
          along = along-other g.along h n k en ek m rows' p z;
          told = e ∙ g.told;
          few = omega (arith, e, g.few);
          stored =
              record {
                places = w.places ∙ g.stored.places;
                energies = w.energies ∙ g.stored.energies;
                codes = w.codes ∙ g.stored.codes;
              };
        }

    -- ---- a listed ping is the next of them
    module _ (z : is_ping k ≡ true) where
      abbrev it : Linked
      it = linked-at g.along.telling h n k en ek z

      -- it has room
      pub filling_room : row < length (linked_of f)
      filling_room =
          telling-tells g.along.telling h n k en ek z (row < length (linked_of f))
          (λ ls e. omega (arith, g.told, ap length e, length-append g.done (it ∷ ls)))

      -- and is the one that stands at its place
      module _ (x : Quantity)
          (q : x ≡ quantity_of (get_or (channels_in used rows) (place_of id_of (named_at o f at).0 (channels_in used rows)) (channel_of []))) where
        pub filling_found : FoundPing f at (record { at = at; msb = o; whole = n; code = k; quantity = x })
        filling_found =
            let t = g.along.telling in
            let place = linked-place t h n k en ek z in
            record {
              linked = it;
              stands = telling-tells t h n k en ek z (standing at (linked_of f) ≡ _)
                  (λ ls e. ap (λ (p : ℕ). standing p (linked_of f)) (sym place) ∙ standing-told f g.done ls it e);
              place = place;
              quantity = along-quantity g.along h n k en ek z x q;
              here = linked-part t h n k en ek z;
              says = linked-says t h n k en ek z;
            }

        pub filling_ping : (i : Counts) → check_file f ≡ Accepted i → (e : Echo)
            → e ≡ echo_here f (record { at = at; msb = o; whole = n; code = k; quantity = x }) i
            → (units code : ℕ) → units ≡ sum_in e → code ≡ code_in e
            → (next : ℕ) (c : Slices) → next ≡ row + 1 → Put b row at units code c
            → (m : ℕ) (rows' : List (List ℕ)) → Past used rows (new_here o f at) m rows'
            → Filling f a o (at + n) m next rows' c
        filling_ping i r e is units code u y next c one w m rows' p =
            let place = linked-place g.along.telling h n k en ek z in
            let s = g.stored in
            let echo = is ∙ sym (found_echo f at r filling_found) ∙ ap (energy_at f) (sym place) in
            record {
              done = g.done ++ (it ∷ []);
              along =
                  along-ping g.along h n k en ek m rows' p z (λ ls. (g.done ++ (it ∷ [])) ++ ls)
                  (λ ls. sym (append_assoc g.done (it ∷ []) ls));
              told = omega (arith, one, g.told, length-append g.done (it ∷ []));
              few = omega (arith, one, g.few, en, (telling-whole g.along.telling h).long);
              stored =
                  record {
                    places = column (λ (l : Linked). l.place) a.places g.done it s.places g.told (sym place) w.places;
                    energies = column (energy_for f) a.energies g.done it s.energies g.told (u ∙ ap sum_in echo) w.energies;
                    codes = column (code_for f) a.codes g.done it s.codes g.told (y ∙ ap code_in echo) w.codes;
                  };
            }
