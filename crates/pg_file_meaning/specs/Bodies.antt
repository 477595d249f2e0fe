-- The bodies that forms in preorder stand for. Each form uses the bodies of the next whole forms.
use Rattle.std.specs.Prelude.{ℕ, zero, suc, List, [], ◌∷◌, ◌++◌, map, take, drop}
use Rattle.std.specs.Str.{encode_utf8_all}
use Rattle.std.specs.Global.{Vec}
use Rattle.pg_pred.specs.Offer.{Offer}
use Rattle.pg_grammar_form.specs.Names.{Name}
use Rattle.pg_grammar_form.specs.declared.class.ClassPart.{ClassPart}
use Rattle.pg_grammar_form.specs.declared.class.ClassPart.TheVariants as class
use Rattle.pg_grammar_form.specs.declared.form.Form.TheVariants as form
use Rattle.pg_grammar_form.specs.declared.form.Leaf.TheVariants as leaf
use Rattle.pg_grammar_form.specs.declared.form.Around.TheVariants as around
use Rattle.pg_file_meaning.specs.declared.body.PlacedBase.{PlacedBase}
use Rattle.pg_file_items.specs.declared.written.WrittenPart.{WrittenPart}
use Rattle.pg_file_items.specs.declared.written.WrittenPart.TheVariants as part
use Rattle.pg_file_items.specs.declared.written.WrittenForm.{WrittenForm}
use Rattle.pg_file_items.specs.declared.written.WrittenForm.TheVariants as written
use Rattle.pg_file_items.specs.Sizes.{part_count}
use Rattle.pg_file_meaning.specs.Names.{builder_named, chain_builder_named, class_named}
use Rattle.pg_file_meaning.specs.Meaning.{Body, seq_of, some_of, one_of, two_of, between_of, class_of, chain_of, builders_named}

-- a part of a class expression, with its name looked up
abbrev pub part_meant : Offer → List Name → WrittenPart → ClassPart
part_meant offer classes (part.Literal s) = class.Literal s
part_meant offer classes (part.Range low high) = class.Range low high
part_meant offer classes (part.Union n) = class.Union n
part_meant offer classes part.Complement = class.Complement
part_meant offer classes (part.Named s) = class_named offer classes s

abbrev pub parts_meant : Offer → List Name → List WrittenPart → List ClassPart
parts_meant offer classes parts = map (part_meant offer classes) parts

-- ---- bodies

-- the body with an index
abbrev pub body_at : ℕ → List Body → Body
body_at k [] = []
body_at zero (body ∷ bodies) = body
body_at (suc k) (body ∷ bodies) = body_at k bodies

-- the body of a form, given the bodies of its parts
abbrev pub body_of_form : Offer → List Name → WrittenForm → List Body → Body
body_of_form offer classes (written.OfClass form parts) bodies = class_of form (parts_meant offer classes parts) ∷ []
body_of_form offer classes (written.String s) bodies = form.Leaf (leaf.String s) ∷ []
body_of_form offer classes (written.Seq n) bodies = seq_of bodies
body_of_form offer classes (written.OfSome form n) bodies = some_of form bodies
body_of_form offer classes (written.OfOne form) bodies = one_of form (body_at 0 bodies)
body_of_form offer classes (written.OfTwo form) bodies = two_of form (body_at 0 bodies) (body_at 1 bodies)
body_of_form offer classes written.Between bodies = between_of (body_at 0 bodies) (body_at 1 bodies) (body_at 2 bodies)
body_of_form offer classes (written.Chain side builder symbol) bodies = chain_of side (chain_builder_named offer builder symbol) ∷ (body_at 0 bodies ++ body_at 1 bodies)
body_of_form offer classes (written.Expression infixes prefixes postfixes) bodies = form.Expression (builders_named offer infixes prefixes postfixes) (record {}) ∷ body_at 0 bodies
body_of_form offer classes (written.Build builder symbol) bodies = form.Around (around.Build (builder_named offer builder) (encode_utf8_all symbol)) (record {}) ∷ body_at 0 bodies
body_of_form offer classes (written.Label message) bodies = form.Around (around.Label message) (record {}) ∷ body_at 0 bodies
body_of_form offer classes written.EndOfText bodies = form.Leaf leaf.EndOfText ∷ []
body_of_form offer classes (written.Word s) bodies = form.Leaf (leaf.Word s) ∷ []
body_of_form offer classes (written.Rule s) bodies = form.Rule s ∷ []

-- the bodies of the whole forms, from left to right
abbrev pub bodies : Offer → List Name → List WrittenForm → List Body
bodies offer classes [] = []
bodies offer classes (form ∷ forms) =
    body_of_form offer classes form (take (part_count form) (bodies offer classes forms)) ∷ drop (part_count form) (bodies offer classes forms)

-- the body of one value
abbrev pub body_meant : Offer → List Name → List WrittenForm → Body
body_meant offer classes forms = body_at 0 (bodies offer classes forms)

-- the base forms without their places
abbrev pub bases_of : List PlacedBase → Body
bases_of placed = map (λ (b : PlacedBase). b.form) placed

-- the base forms of several bodies, from left to right
abbrev pub all_bases_of : List (Vec PlacedBase) → List Body
all_bases_of placed = map (λ (b : Vec PlacedBase). bases_of b.items) placed
