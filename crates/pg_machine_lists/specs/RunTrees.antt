-- The trees of a run that are kept; those that will be discarded are only counted.
use Rattle.std.specs.Prelude.{ℕ, ◌+◌, ◌-◌, ◌==◌, min, List, [], ◌∷◌, ◌++◌, length, take, drop, refl, if◌then◌else◌}
use Rattle.std.specs.Coded.{Coded, code_by, coded×, coded_ℕ, coded_list}
use Rattle.pg_tree.specs.Trees.{Tree}
use Rattle.pg_tree.specs.Marks.{tree_code}
use Rattle.pg_tree.specs.Built.{built}
use Rattle.pg_tree.specs.declared.shape.Shape.{Shape}

pub record RunTrees : Type 0 where
  pub kept : List Tree
  -- how many further trees are only counted
  pub hidden : ℕ
  -- how many forms are open that discard their part's trees
  pub hiding : ℕ

-- the encoding: a triple of these
abbrev pub run_trees_code : Coded RunTrees
run_trees_code =
    code_by (List Tree × (ℕ × ℕ)) (coded× (coded_list tree_code) (coded× coded_ℕ coded_ℕ)) (λ f. (f.kept, (f.hidden, f.hiding)))
    (λ p. record { kept = p.0; hidden = p.1.0; hiding = p.1.1 }) (λ _. refl)

-- the state at the start of a run
abbrev pub no_run_trees : RunTrees
no_run_trees = record { kept = []; hidden = 0; hiding = 0 }

-- how many trees there are, with those that are only counted
abbrev pub tree_count : RunTrees → ℕ
tree_count f = length f.kept + f.hidden

-- the trees and the number of counted ones, with more of each at the end
abbrev pub rejoined : List Tree → ℕ → RunTrees → RunTrees
rejoined w h f = record { kept = f.kept ++ w; hidden = f.hidden + h; hiding = f.hiding }

-- more trees at the end, only counted where they will be discarded
abbrev pub with_trees : List Tree → RunTrees → RunTrees
with_trees w f = if f.hiding == 0 then rejoined w 0 f else rejoined [] (length w) f

-- the first trees
abbrev pub first_trees : ℕ → RunTrees → RunTrees
first_trees n f = record { kept = take n f.kept; hidden = min f.hidden (n - length f.kept); hiding = f.hiding }

-- how many trees after the first are only counted
abbrev pub hidden_after : ℕ → RunTrees → ℕ
hidden_after n f = f.hidden - (n - length f.kept)

-- the trees after the first ones built into one
abbrev pub built_after : Shape → List ℕ → ℕ → RunTrees → RunTrees
built_after shape symbol n f = with_trees (built shape symbol (drop n f.kept) ∷ []) (first_trees n f)

-- a form begins that discards its part's trees
abbrev pub with_hiding : RunTrees → RunTrees
with_hiding f = record { kept = f.kept; hidden = f.hidden; hiding = f.hiding + 1 }

-- such a form ends
abbrev pub without_hiding : RunTrees → RunTrees
without_hiding f = record { kept = f.kept; hidden = f.hidden; hiding = f.hiding - 1 }
