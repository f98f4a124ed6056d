-- `readings_write::put_readings` meets its contract: the left line, then the right one. Assumes nothing.
use mathlib.Core.List.{List, [], ◌∷◌, ◌++◌}
use Prim.Native.Nat.{ℕ}
use Rattle.text.specs.Spelled.{spelled}
use Rattle.text_write.proofs.Filling.{Filling, filling_start, filling_room, filling_ran, filling_last, filling_all}
use Rattle.readings.specs.Readings.{left_key, right_key}
use Rattle.readings_write.specs.Clauses.{line_of, lines_of}
use Rattle.readings_write.proofs.Words.{left_worded, right_worded, lines-parts}
use Rattle.readings_write.proofs.Sizes.{lines-room}
use Rattle.readings_write.proofs.put_readings.Goals as goal
use Rattle.readings_write.proofs.put_readings.Lts as lts
use Rattle.readings_write.proofs.put_readings.Reads as reads
use Rattle.readings_write.proofs.put_readings.Tie as tie

abbrev Start : Type 0
Start = lts.Start tie.the-claims reads.Pre reads.Post

abbrev Place-After-put_line : Type 0
Place-After-put_line = lts.After-put_line tie.the-claims reads.Pre reads.Post

abbrev names : Start → List (List ℕ)
names s = spelled s.args.text.now s.args.starts.now s.args.lengths.now

abbrev first : Start → List ℕ
first s = line_of s.args.t (names s) (left_key ++ (61 ∷ [])) s.args.left.now

abbrev second : Start → List ℕ
second s = line_of s.args.t (names s) (right_key ++ (61 ∷ [])) s.args.right.now

-- this is still to come
abbrev Still : Start → ℕ → List ℕ → List ℕ → Type 0
Still s j now rest =
    Filling s.args.at s.args.out.now (lines_of s.args.t (names s) s.args.left.now s.args.right.now) j now rest

before-first : (s : Start) → Still s s.args.at s.args.out.now
    (lines_of s.args.t (names s) s.args.left.now s.args.right.now)
before-first s = filling_start _ _ _ (lines-room s.requires)

after_first : (c : Place-After-put_line) →
    Still c.before.before.before.before.before.before.before.before.before.before c.put_line-j.result c.put_line-j.new.out (second c.before.before.before.before.before.before.before.before.before.before)
after_first c =
    filling_ran (first c.before.before.before.before.before.before.before.before.before.before) _ (lines-parts c.args.t (names c.before.before.before.before.before.before.before.before.before.before) c.args.left.now c.args.right.now) c.put_line-j.ensures
    (before-first c.before.before.before.before.before.before.before.before.before.before)

pub put_line-j-requires : goal.put_line-j-requires
put_line-j-requires c = (left_worded c.requires, filling_room (first c.before.before.before.before.before.before.before.before.before.before) _ (lines-parts c.args.t (names c.before.before.before.before.before.before.before.before.before.before) c.args.left.now c.args.right.now) (before-first c.before.before.before.before.before.before.before.before.before.before))

pub put_line-requires : goal.put_line-requires
put_line-requires c = (right_worded c.requires, filling_all (after_first c.before.before.before.before.before.before))

pub returns : goal.returns
returns c = filling_last {rest = second c.before.before.before.before.before.before.before.before.before.before.before.before.before.before.before.before.before.before.before} c.put_line.ensures (after_first c.before.before.before.before.before.before.before.before.before)
