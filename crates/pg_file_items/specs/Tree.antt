-- A grammar file as a tree: its items, their values and their class expressions, as they are written.
use Rattle.std.specs.Prelude.{ℕ, List, Option}
use Rattle.pg_grammar_form.specs.declared.decl.Role.{Role}
use Rattle.pg_file_items.specs.declared.words.ClassForm.{ClassForm}
use Rattle.pg_file_items.specs.declared.words.SomeForm.{SomeForm}
use Rattle.pg_file_items.specs.declared.words.OneForm.{OneForm}
use Rattle.pg_file_items.specs.declared.words.TwoForm.{TwoForm}
use Rattle.pg_grammar_form.specs.declared.side.Side.{Side}

mutual
  -- an atom of a class expression: a set of characters, a range, a name, `not` before an atom, or a class in parentheses
  pub data Atom : Type 0 where
    Set : List ℕ → Atom
    Range : ℕ → ℕ → Atom
    Name : List ℕ → Atom
    Not : Atom → Atom
    Group : Class → Atom

  -- a class expression: an atom, and further ones with `|` before each
  pub data Class : Type 0 where
    Of : Atom → Atoms → Class

  pub data Atoms : Type 0 where
    No_atom : Atoms
    Or : Atom → Atoms → Atoms

mutual
  -- a form with the contents of its parentheses, `eof`, or the name of a rule
  pub data Value : Type 0 where
    Of_class : ClassForm → Class → Value
    String : List ℕ → Value
    Seq : Values → Value
    Of_some : SomeForm → Value → Values → Value
    Of_one : OneForm → Value → Value
    Of_two : TwoForm → Value → Value → Value
    Between : (before after inner : Value) → Value
    Chain : Side → (builder : List ℕ) → (operand separator : Value) → Value
    Chain_symbol : Side → (builder symbol : List ℕ) → (operand separator : Value) → Value
    Expression : (infixes prefixes postfixes : List ℕ) → (term : Value) → Value
    Build : (builder : List ℕ) → Value → Value
    Build_symbol : (builder symbol : List ℕ) → Value → Value
    Label : Value → (message : List ℕ) → Value
    End_of_text : Value
    Word : List ℕ → Value
    Rule : List ℕ → Value

  pub data Values : Type 0 where
    No_value : Values
    And : Value → Values → Values

-- an item; the word `reserved` isn't written if there are no reserved texts
pub data Item : Type 0 where
  Class_item : (name : List ℕ) → Class → Item
  Word_item : (name : List ℕ) → (head rest : Class) → (reserved : List (List ℕ)) → Item
  Operators : (class gap : Class) → (reserved : List (List ℕ)) → (most : Option (List ℕ)) → Item
  Table : Role → (precedence symbol : List ℕ) → Item
  Start : List ℕ → Item
  Rule_item : (name : List ℕ) → Value → Item
