-- A framed tuple at a place, judged by its length and its type code, as the code's tests tell them; and the verdicts of its parts,
-- one behind the other. Assumes nothing.
use mathlib.Core.Path.{◌≡◌, refl, sym, ap, ap₂, subst, ◌∙◌}
use mathlib.Core.Bool.{Bool, true, false, not, cond, beq}
use mathlib.Core.List.{List, [], ◌∷◌}
use Prim.Native.Nat.{ℕ, ◌+◌, ◌-◌, ◌%◌, ◌≤◌}
use native.Mathlib.Omega.{arith}
use borrow.Author.Tests.{eqb-true, leb-true, eq-eqb, ne_eqb, not-false}
use lib.Dec.{leb, eqb}
use lib.ListN.{length, take, drop, length-drop}
use lib.Seq.{length-take-le}
use Rattle.rules.specs.Rules.{Rule, ◌⇒◌}
use Rattle.layout.specs.Verdict.{Verdict}
use Rattle.layout.specs.Verdict.{Fine, Fault}
use Rattle.layout.specs.Answers.{both, judged, Breach, ◌byte◌}
use Rattle.layout.specs.Fields.{known}
use Rattle.layout.specs.declared.Maker.{Maker}
use Rattle.layout.specs.declared.Says.{Says}
use Rattle.layout.specs.declared.Says.TheVariants as says
use Rattle.layout.specs.Families.{Family, sample_bytes}
use Rattle.layout.specs.Types.{Shape, uncompressed, compressed, listings, among, listing_of, shape_of, is_ping, lengths_of, says_of}
use Rattle.layout.specs.Types.{Length, least_of, length_from, exactly, upward, upward_or, free, fitting}
use Rattle.layout.proofs.Tables.{alike_all, lengths-from}
use Rattle.layout.proofs.Verdicts.{passes, judged_append, both_left}
use Rattle.frame.specs.Frames.{Tup, kind_at, tup_at, framing}
use Rattle.rules.proofs.Bools.{both_true}
use Rattle.frame.proofs.Frames.{allowed_4, allowed-most}
use Rattle.frame.proofs.Places.{Whole, framing-whole}
use Rattle.links.specs.declared.Sounder.{Sounder}
use Rattle.links.specs.declared.Channel.{Channel}
use Rattle.links.specs.Links.{Link, sign_rules}
use Rattle.links.specs.Links
use Rattle.links.specs.inner.LinkVerdict.{LinkVerdict}
use Rattle.links.specs.inner.LinkVerdict.{Linked, Faulty}
use Rattle.links.specs.inner.Tables.{comparing, linking}
use Rattle.links.proofs.Rows.{told-fine, told_fault}
use Rattle.samples.specs.Judging.{judged_samples, judged_words}
use Rattle.content.specs.Items.{identified_by, head_rules, inner_rules, unless, digest}
use Rattle.content.proofs.Places.{by_code, field_at, fits-place, identifier-place, identified-other, link_at, link-place}
use Rattle.content.proofs.Places.{inner_u, inner_c, inner-other}
use Rattle.content.proofs.Fine.{upward-least}
use Rattle.content.proofs.Families.{plain-least, some_sample_bytes}
use Rattle.intake.specs.declared.Tally.{Tally}
use Rattle.intake.specs.inner.Tallies.{Tables, sounders_by, channels_by, Here, Fits, sounder_at, channel_at, named_at, head_verdict}
use Rattle.intake.specs.inner.Tallies.{link_verdict, inner_verdict, own_verdict, turn_verdict, said, compares_at, link_told, turn_told}
use Rattle.intake.specs.inner.Sound.{SoundHere}

-- the tuple at a place; whether its identifier is known
abbrev pub tup_in : Bool → List ℕ → ℕ → Tup
tup_in o f at = tup_at o (drop at f)

abbrev pub identified_in : Bool → List ℕ → ℕ → Bool
identified_in o f at = identified_by (shape_of (kind_at o (drop at f))) o (tup_in o f at)

-- 7, then 9 and 8, of a tuple of n bytes and type code k
abbrev pub head_by : Bool → List ℕ → ℕ → ℕ → ℕ → Bool → List (Rule Breach)
head_by o f at n k first =
    (not (beq (eqb k 65535) first) ⇒ 7 byte 0)
    ∷ (not (fitting (lengths_of k) n) ⇒ 9 byte 0)
    ∷ (not (identified_in o f at) ⇒ 8 byte 0)
    ∷ []

-- what a channel tuple declares is within its least length
least_fits : (l : Length) (n : ℕ) → fitting l n ≡ true → least_of l ≤ n
least_fits (exactly m) n e = omega (arith, eqb-true n m e)
least_fits (upward m step) n e = leb-true m n (both_true (leb m n) _ e).0
least_fits (upward_or m step more) n e = leb-true m n (both_true (leb m n) _ e).0
least_fits free n e = omega arith

abbrev roomy_by : Says → Length → Bool
roomy_by says.Nothing l = true
roomy_by (says.Sounder m) l = true
roomy_by (says.Channel m) l = leb 18 (least_of l)
roomy_by says.Names l = true
roomy_by says.NamesOrAll l = true

roomy : (k : ℕ) → roomy_by (says_of k) (lengths_of k) ≡ true
roomy = alike_all (λ k l. roomy_by l.says l.length) (λ k l. true) (unfold listings in refl) (λ k. refl) (λ k. refl)

roomy_for : (k n : ℕ) (m : Maker) → says_of k ≡ says.Channel m → Fits n k → 18 ≤ n
roomy_for k n m e g =
    omega (
      arith,
      leb-true 18 (least_of (lengths_of k)) (ap (λ (a : Says). roomy_by a (lengths_of k)) (sym e) ∙ roomy k),
      least_fits (lengths_of k) n g,
    )

-- two tests differ
odd : (a b : Bool) → cond b (not a) a ≡ not (beq a b)
odd true true = refl
odd true false = refl
odd false true = refl
odd false false = refl

module _ {o : Bool} {f : List ℕ} {at n k : ℕ} (h : Here o f at n k) where
  pub whole : Whole o f at n
  whole = subst (Whole o f at) h.size (framing-whole o f at h.framed)

  -- what links it stands in its first 16 bytes
  pub room : at + 16 ≤ length f
  room = omega (arith, whole.long, whole.fits)

  abbrev t : Tup
  t = tup_in o f at

  -- ---- its head
  pub head-place : (first : Bool) → head_verdict o first (tup_in o f at) ≡ judged (head_by o f at n k first)
  unfolding head_verdict
  head-place first =
      let signs = (by_code o t).signs ∙ ap (λ (j : ℕ). eqb j 65535) h.kind in
      let fits = fits-place o f at n whole ∙ ap (λ (j : ℕ). fitting (lengths_of j) n) h.kind in
      sym (judged_append (sign_rules first (digest o t)) (head_rules o t))
      ∙ ap₂ (λ (a b : Bool). judged ((a ⇒ 7 byte 0) ∷ (not b ⇒ 9 byte 0) ∷ (not (identified_in o f at) ⇒ 8 byte 0) ∷ []))
      (ap (λ (a : Bool). cond first (not a) a) signs ∙ odd (eqb k 65535) first) fits

  pub head-fits : {v : Verdict} (first : Bool) → v ≡ head_verdict o first (tup_in o f at) → v ≡ Fine → Fits n k
  head-fits first e d = not-false _ (passes (head_by o f at n k first) (sym (e ∙ head-place first) ∙ d)).1.0

  -- where a signature may stand, its head breaks its own rules alone
  signed : (b : Bool) (v : Verdict) → both (judged ((cond b (not b) b ⇒ 7 byte 0) ∷ [])) v ≡ v
  signed true v = refl
  signed false v = refl

  own-head : head_verdict o (eqb k 65535) (tup_in o f at) ≡ judged (head_rules o (tup_in o f at))
  unfolding head_verdict
  own-head =
      let signs = (by_code o t).signs ∙ ap (λ (j : ℕ). eqb j 65535) h.kind in
      ap (λ (a : Bool). both (judged ((cond (eqb k 65535) (not a) a ⇒ 7 byte 0) ∷ [])) (judged (head_rules o t))) signs
      ∙ signed (eqb k 65535) (judged (head_rules o t))

  -- 9 and 8, then those of its samples
  pub own-parts : both (head_verdict o (eqb k 65535) (tup_in o f at)) (inner_verdict o (tup_in o f at)) ≡ own_verdict o (tup_in o f at)
  unfolding inner_verdict own_verdict
  own-parts = ap (λ (v : Verdict). both v (judged (inner_rules o t))) own-head ∙ sym (judged_append (head_rules o t) (inner_rules o t))

  -- what stands between a header of a bytes and its last 8 is short
  pub few : (a : ℕ) → length (take (at + n - 8 - (at + a)) (drop (at + a) f)) ≤ 262136 - a
  few a =
      omega (
        arith,
        length-take-le (at + n - 8 - (at + a)) (drop (at + a) f) (simp length-drop (omega (arith, whole.fits))),
        allowed-most n whole.allowed,
      )

  -- ---- codes of no concern to a rule
  other : {j : ℕ} → (k ≡ j → ⊥) → kind_at o (drop at f) ≡ j → ⊥
  other a e = a (sym h.kind ∙ e)

  pub no_identifier : (k ≡ 65535 → ⊥) → identified_in o f at ≡ true
  no_identifier a = identified-other o t (other a)

  pub no_inner : is_ping k ≡ false → inner_verdict o (tup_in o f at) ≡ Fine
  unfolding inner_verdict
  no_inner a = inner-other o t (ap is_ping h.kind ∙ a)

  -- ---- where the length fits: by its code,
  module _ (g : Fits n k) where
    code_of_lem : {j : ℕ} → k ≡ j → kind_at o (drop at f) ≡ j
    code_of_lem e = h.kind ∙ e

    length_of_lem : {j : ℕ} → k ≡ j → fitting (lengths_of j) n ≡ true
    length_of_lem e = subst (Fits n) e g

    -- of a ping's shape
    length-by : {q : Shape} → shape_of k ≡ q → fitting (length_from q) n ≡ true
    length-by e = ap (λ (l : Length). fitting l n) (sym (lengths-from k ∙ ap length_from e)) ∙ g

    pub least_u : (p : Family) → shape_of k ≡ uncompressed p → 32 + sample_bytes p ≤ n
    least_u p e = plain-least p n (length-by e)

    pub long_u : (p : Family) → shape_of k ≡ uncompressed p → 36 ≤ n
    long_u p e = omega (arith, least_u p e, some_sample_bytes p)

    pub long_c : (p : Family) → shape_of k ≡ compressed p → 40 ≤ n
    long_c p e = upward-least 40 n _ (length-by e)

    -- a word at least stands behind a compressed ping's header, and whole words
    pub worded : (p : Family) → shape_of k ≡ compressed p → let part = take (at + n - 8 - (at + 28)) (drop (at + 28) f) in
        (2 ≤ length part) × ((length part % 2 ≡ 0) × (length part ≤ 262108))
    worded p e =
        let l = length-take-le (at + n - 8 - (at + 28)) (drop (at + 28) f) (simp length-drop (omega (arith, whole.fits))) in
        let long = long_c p e in
        let four = allowed_4 n whole.allowed in
        (omega arith, (omega arith, few 28))

    pub identifier-read : k ≡ 65535 → identified_in o f at ≡ known (field_at o f at 2 6)
    unfolding listing_of among listings
    identifier-read e = identifier-place o f at n whole (code_of_lem e) (eqb-true n 24 (length_of_lem e))

    -- and by what its type says
    pub link-by : {a : Says} → says_of k ≡ a → (digest o (tup_in o f at)).link ≡ link_at o f at n whole a
    link-by e =
        link-place o f at n whole (subst (Fits n) (sym h.kind) g) ∙ ap (λ (j : ℕ). link_at o f at n whole (says_of j)) h.kind
        ∙ ap (link_at o f at n whole) e

    pub channel-whole : {m : Maker} → says_of k ≡ says.Channel m → at + 18 ≤ length f
    channel-whole {m} e = omega (arith, roomy_for k n m e g, whole.fits)

    -- an attitude of all channels, and of one
    attitude : {b : Bool} → says_of k ≡ says.NamesOrAll → eqb (named_at o f at).0 65535 ≡ b
        → (digest o (tup_in o f at)).link ≡ unless b (Links.names (named_at o f at))
    attitude e d = link-by e ∙ ap (λ (b : Bool). unless b (Links.names (named_at o f at))) d

    -- its samples, from behind the header to its last 8 bytes
    pub inner-samples : (p : Family) → shape_of k ≡ uncompressed p
        → inner_verdict o (tup_in o f at) ≡ judged_samples p o (take (at + n - 8 - (at + 24)) (drop (at + 24) f))
    unfolding inner_verdict
    inner-samples p e =
        let z : n - 32 ≡ at + n - 8 - (at + 24) = omega (arith, long_u p e) in
        inner_u o f at n whole p (ap shape_of h.kind ∙ e) (long_u p e) ∙ ap (λ (i : ℕ). judged_samples p o (take i (drop (at + 24) f))) z

    pub inner-words : (p : Family) → shape_of k ≡ compressed p
        → inner_verdict o (tup_in o f at) ≡ judged_words p o (field_at o f at 4 24) (take (at + n - 8 - (at + 28)) (drop (at + 28) f))
    unfolding inner_verdict
    inner-words p e =
        let z : n - 36 ≡ at + n - 8 - (at + 28) = omega (arith, long_c p e) in
        inner_c o f at n whole p (ap shape_of h.kind ∙ e) (long_c p e)
        ∙ ap (λ (i : ℕ). judged_words p o (field_at o f at 4 24) (take i (drop (at + 28) f))) z

-- the length of a sound tuple fits its type
pub sound-fits : {o : Bool} {f : List ℕ} {at n k : ℕ} → SoundHere o f at n k → Fits n k
sound-fits {o} {f} {at} {n} {k} s =
    let t = tup_in o f at in
    let own = own-parts s.here ∙ s.own in
    head-fits s.here (eqb k 65535) refl (both_left (head_verdict o (eqb k 65535) t) (inner_verdict o t) own)

-- ---- what is told of its links where a tally stands, by its code
module _ {o : Bool} {f : List ℕ} {at : ℕ} (w : Tally) (c : Tables) {n k : ℕ} (h : Here o f at n k) where
  told : {l : Link} → (digest o (tup_in o f at)).link ≡ l → link_told o (drop at f) w c ≡ linking (sounders_by w c) (channels_by w c) l
  unfolding link_told
  told e = ap (linking (sounders_by w c) (channels_by w c)) e

  -- nothing links it
  alone : (digest o (tup_in o f at)).link ≡ Links.none → Linked 0 ≡ link_told o (drop at f) w c
  unfolding linking
  alone e = sym (told e)

  module _ (g : Fits n k) where
    pub no_link : says_of k ≡ says.Nothing → Linked 0 ≡ link_told o (drop at f) w c
    no_link e = alone (link-by h g e)

    pub sounder-told : {m : Maker} → says_of k ≡ says.Sounder m
        → linking (sounders_by w c) [] (Links.sounder (sounder_at o f at m)) ≡ link_told o (drop at f) w c
    unfolding linking
    sounder-told e = sym (told (link-by h g e))

    pub channel-told : {m : Maker} → says_of k ≡ says.Channel m
        → linking (sounders_by w c) (channels_by w c) (Links.channel (channel_at o f at m)) ≡ link_told o (drop at f) w c
    channel-told e = sym (told (link-by h g e))

    pub attitude-all : says_of k ≡ says.NamesOrAll → (named_at o f at).0 ≡ 65535 → Linked 0 ≡ link_told o (drop at f) w c
    attitude-all e d = alone (attitude h g e (eq-eqb _ _ d))

    -- what names a channel
    named-told : (digest o (tup_in o f at)).link ≡ Links.names (named_at o f at)
        → linking [] (channels_by w c) (Links.names (named_at o f at)) ≡ link_told o (drop at f) w c
    unfolding linking
    named-told e = sym (told e)

    pub attitude-one : says_of k ≡ says.NamesOrAll → ((named_at o f at).0 ≡ 65535 → ⊥)
        → linking [] (channels_by w c) (Links.names (named_at o f at)) ≡ link_told o (drop at f) w c
    attitude-one e d = named-told (attitude h g e (ne_eqb _ _ d))

    pub names-told : says_of k ≡ says.Names → linking [] (channels_by w c) (Links.names (named_at o f at)) ≡ link_told o (drop at f) w c
    names-told e = named-told (link-by h g e)

-- ---- what is said of the bytes that are left, from the tuple's links on, from its head on, and from its frame on
abbrev pub from_links : Bool → Bool → List Sounder → List Channel → List ℕ → Verdict
from_links o first ss cs r = both (link_verdict o (tup_at o r) ss cs) (inner_verdict o (tup_at o r))

abbrev pub from_head : Bool → Bool → List Sounder → List Channel → List ℕ → Verdict
from_head o first ss cs r = both (head_verdict o first (tup_at o r)) (from_links o first ss cs r)

abbrev pub from_frame : Bool → Bool → List Sounder → List Channel → List ℕ → Verdict
from_frame o first ss cs r = both (framing o r) (from_head o first ss cs r)

module _ (o first : Bool) (ss : List Sounder) (cs : List Channel) (f : List ℕ) (at : ℕ) where
  pub none_left : length f ≡ at → Fault 4 0 ≡ turn_verdict o first ss cs (drop at f)
  unfolding turn_verdict
  none_left e = let z : length (drop at f) ≡ 0 = length-drop at f ∙ omega arith in rw z

  pub some_left : at ≤ length f → (length f ≡ at → ⊥) → from_frame o first ss cs (drop at f) ≡ turn_verdict o first ss cs (drop at f)
  unfolding turn_verdict
  some_left low e = rw (ne_eqb (length (drop at f)) 0 (λ z. e (omega (arith, length-drop at f))))

-- ---- what is told where a tally stands and r is left, by the first of its verdicts that finds a fault, or by all of them
module _ (o : Bool) (r : List ℕ) (w : Tally) (c : Tables) where
  told-all : {v : Verdict} → v ≡ said o r w c → comparing v (compares_at o r w c) ≡ turn_told o r w c
  unfolding turn_told
  told-all e = ap (λ (v : Verdict). comparing v (compares_at o r w c)) e

  pub told-stop : {a b : ℕ} (v u : Verdict) → v ≡ Fault a b → both v u ≡ said o r w c → comparing v 0 ≡ turn_told o r w c
  told-stop v u e q = ap (λ (x : Verdict). comparing x 0) e ∙ told-all (ap (λ (x : Verdict). both x u) (sym e) ∙ q)

  abbrev link_said : Verdict
  link_said = link_verdict o (tup_at o r) (sounders_by w c) (channels_by w c)

  abbrev inner_said : Verdict
  inner_said = inner_verdict o (tup_at o r)

  link-told : link_told o r w c ≡ comparing link_said (compares_at o r w c)
  unfolding link_told linking link_verdict
  link-told = refl

  module _ {x : LinkVerdict} (e : x ≡ link_told o r w c) (q : both link_said inner_said ≡ said o r w c) where
    pub told_unlinked : {a b : ℕ} → x ≡ Faulty a b → x ≡ turn_told o r w c
    told_unlinked {a} {b} d =
        let v = told_fault link_said (compares_at o r w c) a b (sym (e ∙ link-told) ∙ d) in
        d ∙ told-all (ap (λ (u : Verdict). both u inner_said) (sym v) ∙ q)

    module _ {n : ℕ} (d : x ≡ Linked n) where
      pub told-linked : comparing inner_said n ≡ turn_told o r w c
      told-linked =
          let v = told-fine link_said (compares_at o r w c) n (sym (e ∙ link-told) ∙ d) in
          ap (comparing inner_said) (sym v.1) ∙ told-all (ap (λ (u : Verdict). both u inner_said) (sym v.0) ∙ q)

      -- of a tuple without samples
      pub told-alone : inner_said ≡ Fine → Linked n ≡ turn_told o r w c
      told-alone i = ap (λ (x : Verdict). comparing x n) (sym i) ∙ told-linked

  -- what a turn is told, it says
  pub turn-fine : {x : LinkVerdict} {n : ℕ} → x ≡ turn_told o r w c → x ≡ Linked n → (said o r w c ≡ Fine) × (compares_at o r w c ≡ n)
  unfolding turn_told
  turn-fine {n = n} e d = told-fine (said o r w c) (compares_at o r w c) n (sym e ∙ d)

  pub turn_fault : {x : LinkVerdict} {a b : ℕ} → x ≡ turn_told o r w c → x ≡ Faulty a b → said o r w c ≡ Fault a b
  unfolding turn_told
  turn_fault {a = a} {b = b} e d = told_fault (said o r w c) (compares_at o r w c) a b (sym e ∙ d)
