use Rattle.std.proofs.Common.{◌∙◌, map, ap, string_bytes}
use Rattle.std.proofs.lemmas.Result.{IfOk-weaker}
use Rattle.pg_sets_page.proofs.SetsShown.{page_shown}
use Rattle.pg_predict.specs.Findings.{name_text}
use Rattle.pg_sets_own.specs.PrintedStarts.{start_text}
use Rattle.pg_sets_page.proofs.page.sets_page.Goals as goal

pub returns : goal.returns
returns c =
    let g = c.args.grammar.now in
    let named = ap (map string_bytes) c.deref.ensures.value ∙ c.in_ok-names.ensures ∙ ap (map name_text) c.rules.ensures.all in
    let started = ap (map string_bytes) c.deref-2.ensures.value ∙ c.in_ok-starts.ensures ∙ ap (map (start_text g)) c.starts.ensures in
    IfOk-weaker c.page_of.result _ _ (λ page shown. page_shown g c.in_ok-sets.sets _ _ page.items c.in_ok-sets.ensures named started shown) c.page_of.ensures
