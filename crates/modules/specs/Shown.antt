-- Where the name that is shown for a joined symbol stands: in the robot's text, in the module's, or nowhere.
-- Source: document 02, [10] ("returned as a part of the text that declared it, the robot's where both did; for a symbol of neither, or
-- texts refused other than with 14, the part is empty"). Assumes nothing.
use Rattle.std.specs.Prelude.{ℕ, ◌+◌, ◌≤◌, List, [], ltb, length, take, drop, get_or}
use Rattle.grammar.specs.Basics.{choose}
use Rattle.grammar.specs.Limits.{Limits}
use Rattle.grammar.specs.Refusal.{Answer, done, refused, and_then}
use Rattle.text.specs.Names.{any, same_name}
use Rattle.text.specs.Read.{Source, symbol_names, number_of}
use Rattle.text.specs.Rules.{check_text, check_module}
use Rattle.text.specs.Promise.{name_starts, name_lengths}
use Rattle.modules.specs.Joined.{join_texts}
use Rattle.modules.specs.declared.Place.{Place}
use Rattle.modules.specs.declared.Place.TheVariants.{Robot, Module, Neither}

-- the place of a name in the text that says this source, if it declares the name; else the place given
unfoldable pub declared_in : (ℕ → ℕ → Place) → Source → List ℕ → Place → Place
declared_in text s x elsewhere =
    choose (any (same_name x) (symbol_names s))
    (text (get_or (name_starts s) (number_of (symbol_names s) x) 0) (get_or (name_lengths (symbol_names s)) (number_of (symbol_names s) x) 0))
    elsewhere

-- the robot's text where both declare it
unfoldable pub place_of_name : Source → Source → List ℕ → Place
place_of_name robot addon x = declared_in Robot robot x (declared_in Module addon x Neither)

-- symbol number i, over the joined terminals, then the joined nonterminals; past them it is of neither
unfoldable pub place_among : Source → Source → List (List ℕ) → ℕ → Place
place_among robot addon names i = choose (ltb i (length names)) (place_of_name robot addon (get_or names i [])) Neither

-- nowhere for a refusal
unfoldable pub place_in : Answer Place → Place
place_in (done place) = place
place_in (refused cause at) = Neither

module _ (L : Limits) where
  -- the place of what is shown for symbol i
  unfoldable pub shown : List ℕ → List ℕ → ℕ → Place
  shown robot addon i =
      place_in (and_then (check_text L robot) (λ r.
      and_then (check_module L addon) (λ m.
      and_then (join_texts L robot addon) (λ s. done (place_among r m (symbol_names s) i)))))

-- the part of a text of this length from this start on
abbrev pub part_at : List ℕ → ℕ → ℕ → List ℕ
part_at text start size = take size (drop start text)

-- the part at a place
abbrev pub part_of : List ℕ → List ℕ → Place → List ℕ
part_of robot addon (Robot start size) = part_at robot start size
part_of robot addon (Module start size) = part_at addon start size
part_of robot addon Neither = []

-- it lies in its text
abbrev pub Inside : List ℕ → List ℕ → Place → Type 0
Inside robot addon (Robot start size) = start + size ≤ length robot
Inside robot addon (Module start size) = start + size ≤ length addon
Inside robot addon Neither = Unit {0}
