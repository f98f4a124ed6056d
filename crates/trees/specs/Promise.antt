-- What the entries for one sentence promise: the answer, and every lent row afterwards. Source: document 02, [12]. Assumes nothing.
use Rattle.std.specs.Prelude.{ℕ, ◌≤◌, ◌<◌, ◌≡◌, List, length}
use Rattle.grammar.specs.Basics.{over}
use Rattle.grammar.specs.Limits.{limits}
use Rattle.grammar.specs.Grammar.{Grammar}
use Rattle.grammar.specs.Refusal.{Answer, done, refused, buffer_too_short}
use Rattle.grammar.specs.declared.Cause.{Cause}
use Rattle.trees.specs.Trees.{nothing, one, several, Agrees, check_row, cleared, trees_room}
use Rattle.trees.specs.declared.TreesFound.{TreesFound}
use Rattle.trees.specs.declared.TreesFound.TheVariants as found
use Rattle.trees.specs.declared.TreesRoom.{TreesRoom}
use Rattle.trees.specs.declared.TreesRoom.TheVariants as room

-- what find_trees promises: given t, n, the table, the row of terminals, the work row and the list, its answer, and the work row and
-- the list afterwards
pub data FindsTrees (t n : ℕ) (table w work list : List ℕ) : TreesFound → List ℕ → List ℕ → Type 0 where
  -- a refusal before the answer leaves both unchanged
  refuses : (cause : Cause) (at : ℕ) → check_row limits t n table w work ≡ refused cause at → FindsTrees t n table w work list (found.Refused cause at) work list
  -- none and several leave the list untouched
  no_tree : (G : Grammar) → check_row limits t n table w work ≡ done G → Agrees limits G w nothing
      → FindsTrees t n table w work list found.Nothing (cleared G work) list
  several-trees : (G : Grammar) → check_row limits t n table w work ≡ done G → Agrees limits G w several
      → FindsTrees t n table w work list found.Several (cleared G work) list
  -- the one tree's rules, 16-bit numbers, stand in front of the list, the rest of which is unchanged; the answer is how many they are
  one-tree : (G : Grammar) → check_row limits t n table w work ≡ done G → (rules : List ℕ) → Agrees limits G w (one rules) → length rules ≤ length list
      → FindsTrees t n table w work list (found.One (length rules)) (cleared G work) (over rules list)
  -- or the list is too short for them: known only once the work row has been used, so that its entries are 0 then too
  too_short : (G : Grammar) → check_row limits t n table w work ≡ done G → (rules : List ℕ) → Agrees limits G w (one rules) → length list < length rules
      → FindsTrees t n table w work list (found.Refused buffer_too_short 0) (cleared G work) list

-- the room as the code tells it
abbrev pub room_told : Answer ℕ → TreesRoom
room_told (done entries) = room.Entries entries
room_told (refused cause at) = room.Refused cause at

-- what trees_room promises of its answer
abbrev pub TreesRoomAnswer : ℕ → ℕ → List ℕ → TreesRoom → Type 0
TreesRoomAnswer t n table r = r ≡ room_told (trees_room limits t n table)
