-- Tokens: a form `text` around a leaf and all characters of a class that come after it.
use Rattle.std.specs.Prelude.{◌≡◌, ◌≤◌, ◌+◌, ◌++◌, ◌∷◌, [], ℕ, true, List, Option, Some, drop, length, slice_get, take}
use Rattle.pg_text.specs.declared.text.TheConstants.{LIMIT}
use Rattle.pg_tree.specs.Built.{built}
use Rattle.pg_grammar_form.specs.Forms.{Node}
use Rattle.pg_grammar_form.specs.declared.class.ClassPart.{ClassPart}
use Rattle.pg_grammar_form.specs.declared.form.Around.{Around}
use Rattle.pg_grammar_form.specs.declared.form.Around.TheVariants.{Text}
use Rattle.pg_grammar_form.specs.declared.form.Form.TheVariants as form
use Rattle.pg_grammar_form.specs.declared.form.Leaf.TheVariants as leaf
use Rattle.pg_grammar_form.specs.declared.used.BuilderUse.{BuilderUse}
use Rattle.pg_grammar_value.specs.Grammar.{Grammar}
use Rattle.pg_language.specs.Derives.{leaf_of, made_by}
use Rattle.pg_language.specs.Runs.{run_at}
use Rattle.pg_machine_plan.specs.declared.instruction.Keep.{Keep}
use Rattle.pg_machine_quick.specs.Readings.{IsReadAt}
use Rattle.pg_machine_quick.specs.Tape.{Tape, TapeTurn, tape, tape_gives_up, tape_goes}
use Rattle.pg_machine_quick.specs.Turns.{added}
use Rattle.pg_machine_quick.specs.declared.context.Context.{Context}
use Rattle.pg_machine_quick.specs.declared.reading.Reading.TheVariants.{Took}
use Rattle.pg_machine_quick.specs.declared.tokens.Taken.{Taken}
use Rattle.pg_machine_quick.specs.declared.tokens.Token.{Token}
use Rattle.pg_machine_quick.specs.declared.tokens.Wrapped.{Wrapped}
use Rattle.pg_table.specs.Tables.{Table}

-- the leaf at a node is one character of a class
abbrev pub IsOfClass : Grammar → ℕ → Type 0
IsOfClass g q = (class : List ClassPart) × (slice_get g.nodes q ≡ Some (form.Leaf (leaf.Satisfy class)))

-- at a place of the text the leaf at a node takes so many characters
abbrev pub Takes : Context → ℕ → ℕ → ℕ → Type 0
Takes c q i n = (node : Node) × (slice_get c.grammar.now.nodes q ≡ Some node) × ((table : Table) → IsReadAt c.grammar.now c.text.now table i node (Took n))

-- at a place of the text these are all characters, one after another, of the class of the leaf at a node
abbrev pub TakesAll : Context → ℕ → ℕ → List ℕ → Type 0
TakesAll c q i cs = (class : List ClassPart) × (slice_get c.grammar.now.nodes q ≡ Some (form.Leaf (leaf.Satisfy class))) × (cs ≡ run_at c.grammar.now c.text.now class i)

-- a node is a form `text`
abbrev pub IsText : Context → ℕ → Type 0
IsText c q = (p : ℕ) × (slice_get c.grammar.now.nodes q ≡ Some (form.Around Text p))

-- at a place of the text a token takes these: n characters by its leaf, and those after them
abbrev pub IsTaken : Context → Token → ℕ → Taken → Type 0
IsTaken c t i x = (n : ℕ) × Takes c t.first i n × IsText c t.node × (cs : List ℕ) × TakesAll c t.rest (i + n) cs × (x.more ≡ length cs)
    × (x.characters.now ≡ take (n + x.more) (drop i c.text.now)) × (length x.characters.now ≡ n + x.more)

-- these are within a text
abbrev pub IsWithin : ℕ → Taken → Type 0
IsWithin i x = (i + length x.characters.now ≤ LIMIT) × (x.more ≤ LIMIT)

-- what comes of a token of these characters, of which m come after those of its leaf: one leaf
abbrev pub token_tape : Keep → Tape → List ℕ → ℕ → Tape
token_tape keep s cs m = tape (s.pc + 5) (s.place + length cs) s.stack (added keep s.trees (leaf_of cs ∷ [])) (s.nodes + (5 + m)) true

-- and of a form around one
abbrev pub wrapped_tape : List ℕ → Wrapped → Around → Tape → List ℕ → ℕ → Tape
wrapped_tape text w kind s cs m =
    let inner : Tape = token_tape w.token.keep s cs m in
    tape (inner.pc + 2) inner.place s.stack (added w.keep (take (length s.trees) inner.trees) (made_by kind text s.place inner.place (drop (length s.trees) inner.trees)))
    (inner.nodes + 1) true

-- and of a builder around one, where all trees are kept
abbrev pub built_tape : BuilderUse → List ℕ → Tape → List ℕ → ℕ → Tape
built_tape used symbol s cs m =
    tape (s.pc + 7) (s.place + length cs) s.stack (s.trees ++ built used.shape symbol (leaf_of cs ∷ []) ∷ []) (s.nodes + (6 + m)) true

abbrev pub tape_wrapped : Context → Wrapped → Taken → Tape → Option Node → TapeTurn
tape_wrapped c w x s (Some (form.Around kind p)) = tape_goes (wrapped_tape c.text.now w kind s x.characters.now x.more)
tape_wrapped c w x s _ = tape_gives_up
