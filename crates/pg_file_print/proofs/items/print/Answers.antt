use Rattle.std.proofs.Common.{◌≡◌, ap, ◌∙◌}
use Rattle.std.specs.Str.{encode_utf8_all}
use Rattle.pg_file_items.specs.Syntax.{file_written}
use Rattle.pg_file_print.specs.Canonical.{items_of}
use Rattle.pg_file_print.specs.Layout.{Laid, with_tokens, nothing_laid}
use Rattle.pg_file_print.proofs.PrinterLemmas.Tokens.{laid_text}
use Rattle.pg_file_print.proofs.PrinterLemmas.Texts.{printed_laid}
use Rattle.pg_file_print.proofs.items.print.Goals as goal

pub returns : goal.returns
returns c =
    let tokens = file_written (items_of c.args.grammar.now) in
    let laid : c.put_items.new.out ≡ with_tokens nothing_laid tokens = c.in_ok-put_items.ensures ∙ ap (λ (l : Laid). with_tokens l tokens) c.new-out.ensures in
    ap (λ v. v.items) c.into_bytes.ensures.value ∙ c.in_ok-text.ensures
    ∙ ap encode_utf8_all (c.as_slice.ensures.value ∙ c.into_characters-characters.ensures ∙ ap (λ (l : Laid). l.text) laid ∙ laid_text nothing_laid tokens ∙ printed_laid c.args.grammar.now)
