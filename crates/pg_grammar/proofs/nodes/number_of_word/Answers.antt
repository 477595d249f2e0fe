use Rattle.std.proofs.Common.{◌∙◌, unwrap_or, ap, sym}
use Rattle.std.specs.Str.{bytes_eq}
use Rattle.pg_grammar_form.specs.WordItems.{word_name}
use Rattle.pg_grammar_form.proofs.Lookup.{position-map}
use Rattle.pg_grammar.proofs.nodes.number_of_word.Goals as goal

pub returns : goal.returns
returns c =
    let found = rw c.as_slice.ensures at c.place_of_word.ensures in
    let same = sym (position-map (λ other. bytes_eq other c.args.name.now) word_name c.args.words.now) in
    c.new.ensures ∙ (c.unwrap_or.ensures ∙ ap (λ o. unwrap_or o 0) (found ∙ same))
