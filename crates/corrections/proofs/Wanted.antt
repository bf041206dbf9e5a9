-- Whether a sound tuple is a wanted ping, by what is read at its places; and the search for the first of them. Assumes nothing.
use mathlib.Core.Path.{◌≡◌, refl, sym, ap, subst, ◌∙◌}
use mathlib.Core.Bool.{Bool, true, false, not, ◌&&◌, ◌||◌, true≢false}
use mathlib.Core.List.{List, ◌∷◌}
use mathlib.Core.Option.{some}
use Prim.Native.Nat.{ℕ, ◌+◌, ◌-◌, ◌≤◌, ◌<◌}
use native.Mathlib.Omega.{arith}
use borrow.Author.Tests.{eq-eqb, ne_eqb}
use lib.Dec.{eqb}
use lib.ListN.{length, take, drop}
use Rattle.order.specs.Order.{num_of}
use Rattle.layout.specs.declared.SoftwareChannel.{SoftwareChannel}
use Rattle.layout.specs.Types.{Shape, indexed, row, uncompressed, compressed, unlisted, has_samples, is_ping, shape_of, ping_row}
use Rattle.turning.specs.Rows.{Value, values_of}
use Rattle.frame.specs.Frames.{Tup, length_of, len_at, kind_at, tup_at}
use Rattle.frame.specs.Files.{is_msb}
use Rattle.frame.specs.Tuples.{tuples_of}
use Rattle.frame.proofs.Places.{Whole}
use Rattle.links.specs.Links.{Links, start}
use Rattle.content.specs.Pings.{Ping, content_u, content_c}
use Rattle.content.specs.Items.{ping, item_by, item_of, number_at}
use Rattle.content.proofs.Places.{field_at, length-place, header, values-place, attribute-place}
use Rattle.intake.specs.inner.Sound.{SoundHere, Accepts}
use Rattle.intake.proofs.Judges.{whole, sound-fits, long_u, long_c}
use Rattle.intake.proofs.Loops.{Passing, passing-begin, passing-sound, passing-whole, passing-again, passing-stop, passing-less}
use Rattle.intake.proofs.Loops.{passing-done}
use Rattle.corrections.specs.Spot.{At, Nowhere}
use Rattle.corrections.specs.Corrections.{wanted, first_that, ping_in}
use Rattle.corrections.specs.inner.Spans.{Inside}

-- ---- a listed ping at a place, by what is read there
module _ {o : Bool} {f : List ℕ} {at n k : ℕ} (s : SoundHere o f at n k) where
  abbrev t : Tup
  t = tup_at o (drop at f)

  pub sound-whole : Whole o f at n
  sound-whole = whole s.here

  pub record Pinged : Type 0 where
    pub it : Ping
    pub item : item_of o (tup_at o (drop at f)) ≡ some (ping it)
    pub long : 36 ≤ n
    pub channel : number_at it.head 2 ≡ field_at o f at 2 12
    pub number : number_at it.head 4 ≡ field_at o f at 4 16
    pub attribute : it.attr ≡ field_at o f at 4 (n - 8)

  number-place : 36 ≤ n → number_at (values_of o ping_row (tup_at o (drop at f)).body) 4 ≡ field_at o f at 4 16
  number-place h = ap (λ (vs : List Value). number_at vs 4) (values-place o f at n sound-whole ping_row (omega arith))

  shaped : {q : Shape} → shape_of k ≡ q → item_of o t ≡ item_by q o t
  unfolding item_of
  shaped e = ap (λ (j : ℕ). item_by (shape_of j) o t) s.here.kind ∙ ap (λ (q : Shape). item_by q o t) e

  pub pinged : is_ping k ≡ true → Pinged
  unfolding is_ping content_u content_c
  pinged h = by (shape_of k) refl h
    where
      by : (q : Shape) → shape_of k ≡ q → has_samples q ≡ true → Pinged
      by indexed e z = absurd (true≢false (sym z))
      by (row fs x) e z = absurd (true≢false (sym z))
      by (uncompressed g) e z =
          let long = long_u s.here (sound-fits s) g e in
          record {
            it = content_u g o t.body;
            item = shaped e;
            long = long;
            channel = header o f at n sound-whole long;
            number = number-place long;
            attribute = attribute-place o f at n sound-whole;
          }
      by (compressed g) e z =
          let long : 36 ≤ n = omega (arith, long_c s.here (sound-fits s) g e) in
          record {
            it = content_c g o t.body;
            item = shaped e;
            long = long;
            channel = header o f at n sound-whole long;
            number = number-place long;
            attribute = attribute-place o f at n sound-whole;
          }
      by unlisted e z = absurd (true≢false (sym z))

  -- ---- whether it is wanted
  module _ (edited : Bool) (c : SoftwareChannel) (m : ℕ) where
    abbrev want : Bool
    want = wanted edited c m (item_of o t)

    abbrev attributed : Bool
    attributed = not edited || eqb (field_at o f at 4 (n - 8)) 1

    pub not-ping : is_ping k ≡ false → false ≡ wanted edited c m (item_of o (tup_at o (drop at f)))
    unfolding is_ping
    not-ping h = by (shape_of k) refl h
      where
        by : (q : Shape) → shape_of k ≡ q → has_samples q ≡ false → false ≡ want
        by indexed e z = sym (ap (wanted edited c m) (shaped e))
        by (row fs x) e z = sym (ap (wanted edited c m) (shaped e))
        by (uncompressed g) e z = absurd (true≢false z)
        by (compressed g) e z = absurd (true≢false z)
        by unlisted e z = sym (ap (wanted edited c m) (shaped e))

    module _ (e : is_ping k ≡ true) where
      by-fields : want ≡ (eqb (field_at o f at 2 12) c.0 && (eqb (field_at o f at 4 16) m && attributed))
      by-fields =
          let p = pinged e in
          ap (wanted edited c m) p.item
          ∙ (λ i. eqb (p.channel i) c.0 && (eqb (p.number i) m && (not edited || eqb (p.attribute i) 1)))

      pub other-channel : (field_at o f at 2 12 ≡ c.0 → ⊥) → false ≡ wanted edited c m (item_of o (tup_at o (drop at f)))
      other-channel a = sym (by-fields ∙ ap (λ (x : Bool). x && (eqb (field_at o f at 4 16) m && attributed)) (ne_eqb _ _ a))

      module _ (a : field_at o f at 2 12 ≡ c.0) where
        by-channel : want ≡ (eqb (field_at o f at 4 16) m && attributed)
        by-channel = by-fields ∙ ap (λ (x : Bool). x && (eqb (field_at o f at 4 16) m && attributed)) (eq-eqb _ _ a)

        pub other-number : (field_at o f at 4 16 ≡ m → ⊥) → false ≡ wanted edited c m (item_of o (tup_at o (drop at f)))
        other-number b = sym (by-channel ∙ ap (λ (x : Bool). x && attributed) (ne_eqb _ _ b))

        module _ (b : field_at o f at 4 16 ≡ m) where
          by_number : want ≡ attributed
          by_number = by-channel ∙ ap (λ (x : Bool). x && attributed) (eq-eqb _ _ b)

          pub any-attribute : edited ≡ false → true ≡ wanted edited c m (item_of o (tup_at o (drop at f)))
          any-attribute d = sym (by_number ∙ ap (λ (x : Bool). not x || eqb (field_at o f at 4 (n - 8)) 1) d)

          pub one-attribute : edited ≡ true → (r : ℕ) → r ≡ num_of o (take 4 (drop (at + n - 8) f))
              → eqb r 1 ≡ wanted edited c m (item_of o (tup_at o (drop at f)))
          one-attribute d r q =
              let z : at + n - 8 ≡ at + (n - 8) = omega (arith, sound-whole.long) in
              ap (λ (x : ℕ). eqb x 1) (q ∙ ap (λ (x : ℕ). num_of o (take 4 (drop x f))) z)
              ∙ sym (by_number ∙ ap (λ (x : Bool). not x || eqb (field_at o f at 4 (n - 8)) 1) d)

-- ---- the first
module _ (want : Tup → Bool) (at : ℕ) (t : Tup) (ts : List Tup) where
  pub first-here : want t ≡ true → first_that want at (t ∷ ts) ≡ At at (length_of t)
  unfolding first_that
  first-here e = rw (e, first_that)

  pub first-later : want t ≡ false → first_that want at (t ∷ ts) ≡ first_that want (at + length_of t) ts
  unfolding first_that
  first-later e = rw (e, first_that)

-- ---- the search: the first of the tuples from here on is the first of all
abbrev pub wants : Bool → SoftwareChannel → ℕ → Bool → Tup → Bool
wants edited c m o t = wanted edited c m (item_of o t)

pub record Seeking (edited : Bool) (c : SoftwareChannel) (m : ℕ) (o : Bool) (f : List ℕ) (at : ℕ) : Type 0 where
  pub links : Links
  pub passing : Passing (first_that (wants edited c m o)) (ping_in edited f c m) o f at links

module _ (edited : Bool) (c : SoftwareChannel) (m : ℕ) (o : Bool) (f : List ℕ) where
  pub seeking_begin : Accepts f → o ≡ is_msb f → Seeking edited c m o f 4
  unfolding ping_in
  seeking_begin a e =
      record {
        links = start;
        passing =
            subst (λ (x : Bool). Passing (first_that (wants edited c m o)) (first_that (wants edited c m x) 4 (tuples_of f)) o f 4 start) e
            (passing-begin (first_that (wants edited c m o)) f o a e);
      }

  module _ (at : ℕ) (g : Seeking edited c m o f at) where
    pub seeking_none : length f ≤ at → (Nowhere ≡ ping_in edited f c m) × Inside f Nowhere
    unfolding first_that
    seeking_none h = (passing-done g.passing h, tt)

    module _ (h : at < length f) where
      abbrev here : Tup
      here = tup_at o (drop at f)

      pub seeking_sound : (n : ℕ) → n ≡ len_at o (drop at f) → SoundHere o f at n (kind_at o (drop at f))
      seeking_sound n a = rw a (passing-sound g.passing h)

      pub seeking_whole : Whole o f at (len_at o (drop at f))
      seeking_whole = passing-whole g.passing h

      module _ (n : ℕ) (a : n ≡ len_at o (drop at f)) where
        pub seeking_here : {b : Bool} → b ≡ wants edited c m o (tup_at o (drop at f)) → b ≡ true
            → (At at n ≡ ping_in edited f c m) × Inside f (At at n)
        seeking_here e t =
            let w = seeking_whole in
            let size : n ≡ length_of here = a ∙ sym (length-place o f at _ w) in (
              ap (At at) size
                  ∙ passing-stop g.passing h (At at (length_of here)) (λ ts. first-here (wants edited c m o) at here ts (sym e ∙ t)),
              omega (arith, w.fits, a),
            )

        pub seeking_again : {b : Bool} → b ≡ wants edited c m o (tup_at o (drop at f)) → b ≡ false → Seeking edited c m o f (at + n)
        seeking_again e t =
            record {
              links = _;
              passing =
                  passing-again g.passing h n a (first_that (wants edited c m o))
                  (λ ts. first-later (wants edited c m o) at here ts (sym e ∙ t));
            }

        pub seeking_less : length f - (at + n) < length f - at
        seeking_less = passing-less g.passing h n a
