-- A tuple by itself, whatever stands around it: at the front of what is left of a file, r. Assumes nothing.
use Rattle.std.specs.Prelude.{ℕ, Bool, List, ◌++◌}
use Rattle.rules.specs.Rules.{Rule}
use Rattle.layout.specs.Verdict.{Verdict}
use Rattle.layout.specs.Answers.{judged, Breach}
use Rattle.frame.specs.Frames.{tup_at, frame_rules}
use Rattle.content.specs.Items.{head_rules, inner_rules}

-- the rules of its frame, 3, 5, 3, 6; then its own, 9, 8, 11, and 23 or 24, 25, of which an unlisted type has none to break
abbrev pub alone_rules : Bool → List ℕ → List (Rule Breach)
alone_rules o r = let t = tup_at o r in frame_rules o r ++ (head_rules o t ++ inner_rules o t)

unfoldable pub alone : Bool → List ℕ → Verdict
alone o r = judged (alone_rules o r)
