use Rattle.std.proofs.Common.{◌≡◌, ◌∙◌, List, [], ◌∷◌, Bor, map, refl, ap, sym}
use Rattle.std.specs.Prelude.{◌||◌}
use Rattle.std.specs.List.{list_any}
use Rattle.std.specs.Str.{bytes_eq}
use Rattle.pg_message.specs.Messages.{Text, has_text}
use Rattle.pg_message.proofs.printed.is_among.Goals as goal

-- the texts that references point to
has_text-map : (texts : List (Bor Text)) (text : Text) → has_text (map (λ one. one.now) texts) text ≡ list_any (λ one. bytes_eq one.now text) texts
has_text-map [] text = refl
has_text-map (one ∷ texts) text = ap (λ b. bytes_eq one.now text || b) (has_text-map texts text)

pub returns : goal.returns
returns c = c.contains.ensures.value ∙ sym (has_text-map c.args.texts.now c.args.text.now)
