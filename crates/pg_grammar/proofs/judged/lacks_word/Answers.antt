use Rattle.std.proofs.Common.{◌∙◌, not, ap, sym}
use Rattle.std.specs.Str.{bytes_eq}
use Rattle.pg_grammar_form.specs.WordItems.{word_name}
use Rattle.pg_grammar_form.proofs.Each.{any-map}
use Rattle.pg_grammar.proofs.judged.lacks_word.Goals as goal

pub returns : goal.returns
returns c =
    let known = rw c.as_slice.ensures at c.has_word.ensures in
    ap not (known ∙ sym (any-map (λ other. bytes_eq other c.args.name.now) word_name c.args.words.now))
