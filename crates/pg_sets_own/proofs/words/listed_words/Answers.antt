use Rattle.std.proofs.Common.{rules, ◌≡◌, ◌<◌, ◌≤◌, ℕ, length, get_or, refl, sym, ap, subst, ◌∙◌, arith}
use Rattle.std.proofs.lemmas.Option.{slice_get_read, slice_get_within, same_Some}
use Rattle.std.proofs.lemmas.Result.{IfOk-weaker}
use Rattle.pg_start.specs.declared.kind.StartKind.TheVariants.{Word}
use Rattle.pg_sets_own.specs.OwnStarts.{ReadsWords}
use Rattle.pg_sets_own.specs.Words.{ListsWords}
use Rattle.pg_sets_own.specs.Words as words
use Rattle.pg_sets_own.specs.declared.listed.ListedStart.{ListedStart}
use Rattle.pg_sets_own.proofs.words.listed_words.Goals as goal

pub returns-in-Some : goal.returns-in-Some
returns-in-Some c =
    let g = c.args.grammar.now in
    let w = c.first_reader-word.result in
    let heads = c.args.head.now in
    let rest = c.args.rest.now in
    let item = c.in-Some.item.now in
    let items = c.word_items.ensures.all in
    let counted = ap length items in
    let found = c.first_reader-word.ensures in
    let within : w < length c.word_items.result.now = search rules in
    let inside : w < length g.words = omega arith in
    let reads = found.reads inside in
    let at = slice_get_read g.words (length g.words) w item refl inside (c.in-Some.ensures.lookup.1 ∙ ap (λ is. get_or is w item) items) in
    let one : reads.item ≡ item = same_Some reads.item item (sym reads.there ∙ at) in
    let listed : ListedStart = record { start = Word heads rest item.reserved; word = w } in
    let lists : ListsWords g heads rest c.args.reserved.now listed =
    subst (λ i. ListsWords g heads rest c.args.reserved.now (record { start = Word heads rest i.reserved; word = w })) one (words.item reads found.none_before) in
    IfOk-weaker c.word_start.result (λ other. other ≡ listed) _ (λ other same. subst (ListsWords g heads rest c.args.reserved.now) (sym same) lists) c.word_start.ensures

pub returns-in-None : goal.returns-in-None
returns-in-None c =
    let g = c.args.grammar.now in
    let w = c.first_reader-word.result in
    let heads = c.args.head.now in
    let rest = c.args.rest.now in
    let items = c.word_items.ensures.all in
    let counted = ap length items in
    let found = c.first_reader-word.ensures in
    let bound = found.bound in
    let past : length c.word_items.result.now ≤ w = search rules in
    let all : length g.words ≡ w = omega arith in
    let none : (v : ℕ) → ReadsWords g heads rest c.args.reserved.now v → ⊥ =
    λ v reads. let below = slice_get_within g.words v reads.item reads.there in found.none_before v (omega arith) reads in
    let listed : ListedStart = record { start = Word heads rest c.args.reserved.now; word = w } in
    let lists : ListsWords g heads rest c.args.reserved.now listed =
    subst (λ n. ListsWords g heads rest c.args.reserved.now (record { start = Word heads rest c.args.reserved.now; word = n })) all (words.no_item none) in
    IfOk-weaker c.word_start-in-None.result (λ other. other ≡ listed) _ (λ other same. subst (ListsWords g heads rest c.args.reserved.now) (sym same) lists) c.word_start-in-None.ensures
