-- The fields of a sound ping by their places in the file. Assumes nothing.
use mathlib.Core.Path.{◌≡◌, refl, sym, ap, ◌∙◌}
use mathlib.Core.Bool.{Bool, true, true≢false}
use mathlib.Core.List.{List}
use mathlib.Core.Option.{Option, some, none}
use Prim.Native.Nat.{ℕ, ◌+◌, ◌-◌}
use native.Mathlib.Omega.{arith}
use lib.IntN.{ℤ}
use lib.ListN.{length, take, drop}
use Rattle.layout.specs.Answers.{tells}
use Rattle.order.specs.Order.{num_of, signed_of}
use Rattle.layout.specs.Answer.{Answer}
use Rattle.layout.specs.Types.{Shape, indexed, row, uncompressed, compressed, unlisted, ping_row, shape_of, has_samples, is_ping}
use Rattle.frame.specs.Frames.{Tup}
use Rattle.frame.specs.Files.{is_msb}
use Rattle.frame.proofs.Places.{Whole}
use Rattle.turning.specs.Rows.{values_of}
use Rattle.turning.proofs.Contents.{values-at}
use Rattle.content.specs.Pings.{attribute_in, content_u, content_c}
use Rattle.content.specs.Items.{Item, plain, ping, raw, item_by, item_of}
use Rattle.content.proofs.Places.{values-place, attribute-place}
use Rattle.tuples.specs.Readers.{tuple_there, read_item}
use Rattle.tuples.specs.inner.Opening.{Readable}
use Rattle.tuples.proofs.Reading.{stands, here}
use Rattle.pings.specs.declared.PingHeader.{PingHeader}
use Rattle.pings.specs.declared.PingKind.{PingKind}
use Rattle.pings.specs.PingLength.{PingLength}
use Rattle.pings.specs.PingRead.{PingRead}
use Rattle.pings.specs.PingRead.{Read}
use Rattle.pings.specs.Readers.{samples_by}
use Rattle.pings.specs.Headers.{told_length}
use Rattle.pings.specs.Fields.{header_of, ping_by, kind_of_ping, ping_fields, answer_of, answered, PingAt}
use Rattle.pings.specs.inner.Handing.{part_samples, part_length}
use Rattle.pings.proofs.Reading.{whole-there, samples-there, length-there}

same-samples : (x : Option Item) → samples_by x ≡ (ping_by x).samples
same-samples none = refl
same-samples (some (plain k vs)) = refl
same-samples (some (ping q)) = refl
same-samples (some (raw k d)) = refl

-- the header and the attribute of a tuple that has samples, whatever ping it is
head-by : (q : Shape) (o : Bool) (t : Tup) → has_samples q ≡ true → (ping_by (item_by q o t)).head ≡ values_of o ping_row t.body
unfolding content_u content_c
head-by indexed o t e = absurd (true≢false (sym e))
head-by (row fs x) o t e = absurd (true≢false (sym e))
head-by (uncompressed f) o t e = refl
head-by (compressed f) o t e = refl
head-by unlisted o t e = absurd (true≢false (sym e))

attr-by : (q : Shape) (o : Bool) (t : Tup) → has_samples q ≡ true → (ping_by (item_by q o t)).attr ≡ attribute_in o t.body
unfolding content_u content_c
attr-by indexed o t e = absurd (true≢false (sym e))
attr-by (row fs x) o t e = absurd (true≢false (sym e))
attr-by (uncompressed f) o t e = refl
attr-by (compressed f) o t e = refl
attr-by unlisted o t e = absurd (true≢false (sym e))

module _ {f : List ℕ} {p n k : ℕ} {o : Bool} (s : Readable is_ping f p o n k) where
  w : Whole (is_msb f) f p n
  w = (stands s.found).whole

  sampled : has_samples (shape_of (tuple_there f p).kind) ≡ true
  unfolding is_ping
  sampled = ap is_ping (here s.found).kind ∙ s.asks

  head-there : (ping_by (read_item f p)).head ≡ values_of o ping_row (drop (p + 6) f)
  unfolding item_of
  head-there =
      head-by (shape_of (tuple_there f p).kind) (is_msb f) (tuple_there f p) sampled
      ∙ values-place (is_msb f) f p n w ping_row (omega (arith, (whole-there s s.asks).0))
      ∙ sym (values-at (is_msb f) ping_row f p 6)
      ∙ ap (λ (b : Bool). values_of b ping_row (drop (p + 6) f)) (sym s.msb)

  attr-there : (ping_by (read_item f p)).attr ≡ num_of o (take 4 (drop (p + n - 8) f))
  unfolding item_of
  attr-there =
      let z : p + (n - 8) ≡ p + n - 8 = omega (arith, (whole-there s s.asks).0) in
      attr-by (shape_of (tuple_there f p).kind) (is_msb f) (tuple_there f p) sampled
      ∙ attribute-place (is_msb f) f p n w
      ∙ ap (λ (i : ℕ). num_of (is_msb f) (take 4 (drop i f))) z
      ∙ ap (λ (b : Bool). num_of b (take 4 (drop (p + n - 8) f))) (sym s.msb)

  -- what is read at the places is what the reader hands over
  pub fields-there : (h : PingHeader) (a : ℤ) (t : PingKind) (v : ℕ) (l : PingLength)
      → h ≡ header_of (values_of o ping_row (drop (p + 6) f)) → a ≡ signed_of 4 (num_of o (take 4 (drop (p + n - 8) f)))
      → t ≡ kind_of_ping k → v ≡ length (part_samples (shape_of k) o (take (p + n - 8 - (p + 24)) (drop (p + 24) f)))
      → l ≡ told_length (part_length (shape_of k) o (take (p + n - 8 - (p + 24)) (drop (p + 24) f))) → Read h a t v l ≡ ping_fields f p
  unfolding ping_fields
  fields-there h a t v l eh ea et ev el =
      λ i. Read
      ((eh ∙ ap header_of (sym head-there)) i)
      ((ea ∙ ap (signed_of 4) (sym attr-there)) i)
      ((et ∙ ap kind_of_ping (sym (here s.found).kind)) i)
      ((ev ∙ ap length (sym (samples-there s s.asks) ∙ same-samples (read_item f p))) i)
      ((el ∙ ap told_length (sym (length-there s s.asks))) i)

  -- what the field reader promises of it
  pub read-fields : (r : PingRead) → r ≡ ping_fields f p → PingAt f p r
  unfolding ping_fields
  read-fields r e =
      record {
        answer = tells (ap answer_of e ∙ s.answer);
        outcome = e ∙ ap (λ (x : Answer). answered x (ping_fields f p)) s.answer;
      }
