-- What a map holds of the starts of words, item by item and then node by node.
use Rattle.std.proofs.Common.{◌≡◌, ℕ, zero, suc, ◌<◌, ◌+◌, true, false, ◌||◌, ◌⊎◌, inl, inr, List, [], ◌∷◌, ◌++◌, Some, None, slice_get, length, replicate, unwrap_or, is_some, refl, sym, ap, subst, ◌∙◌, arith}
use Rattle.std.specs.Prelude.{◌↔◌, ◌==◌, Option}
use Rattle.std.specs.BTreeMap.{get}
use Rattle.std.specs.Ordering.{is_eq}
use Rattle.std.proofs.lemmas.Bool.{cases_Bool, cases_eq, both_ways, eqb-true, eq-eqb, or_cases, or_left, or_right, true≢false}
use Rattle.std.proofs.lemmas.Option.{same_Some, slice_get_within, none-some}
use Rattle.pg_grammar_value.specs.Grammar.{Grammar}
use Rattle.pg_grammar_form.specs.Forms.{Node}
use Rattle.pg_grammar_form.specs.declared.form.Form.TheVariants as form
use Rattle.pg_grammar_form.specs.declared.form.Leaf.TheVariants as leaf
use Rattle.pg_start.specs.declared.kind.StartKind.{StartKind}
use Rattle.pg_graph.specs.Graphs.{has, joined, numbers_at}
use Rattle.pg_graph.proofs.Joining.{each_length, joined_same, joined_other}
use Rattle.pg_graph.proofs.Lists.{has_append, has_push}
use Rattle.pg_sets_own.specs.Listed.{IsListed, start_order}
use Rattle.pg_sets_own.specs.Own.{AreOwn, AreWordStarts, IsPlain}
use Rattle.pg_sets_own.specs.Own as plain
use Rattle.pg_sets_own.specs.OwnStarts.{OwnStart}
use Rattle.pg_sets_own.specs.OwnStarts as own_of
use Rattle.pg_sets_own.specs.declared.word_starts.WordStarts.{WordStarts}
use Rattle.pg_sets_own.specs.declared.listed.ListedStart.{ListedStart}
use Rattle.pg_sets.specs.Origins.{Origins, sets_of, HoldsIt, IsThere, SourceAt, SourceBelow, AreSoManyOrigins, ReadsItem, item_read, AreReaders, ReadBelow, AreItemOrigins, AreMixedOrigins}
use Rattle.pg_sets.specs.Origins as source_of
use Rattle.pg_sets.proofs.Adding.{same_if_tied, tied_if_same}

-- ---- several sets more

-- one start has these sets too, and the others have the sets that they had
pub record HasMore (before after : Origins) (listed : ListedStart) (more : List ℕ) : Type 0 where
  pub here : get start_order after listed ≡ Some (sets_of before listed ++ more)
  pub others : (other : ListedStart) → is_eq (start_order listed other) ≡ false → get start_order after other ≡ get start_order before other

module _ (before after : Origins) (listed : ListedStart) (more : List ℕ) (added : HasMore before after listed more) where
  here_holds : (v : ℕ) → has (sets_of after listed) v ≡ (has (sets_of before listed) v || has more v)
  here_holds v = ap (λ found. has (unwrap_or found []) v) added.here ∙ has_append (sets_of before listed) more v

  pub held_several : (other : ListedStart) (v : ℕ) → HoldsIt after other v ↔ (HoldsIt before other v ⊎ ((listed ≡ other) × (has more v ≡ true)))
  held_several other v =
      elim (cases_Bool (is_eq (start_order listed other))) [
        | inl tied ↦
            let same = same_if_tied listed other tied in
            subst (λ x. HoldsIt after x v ↔ (HoldsIt before x v ⊎ ((listed ≡ x) × (has more v ≡ true)))) same (
              λ h. elim (or_cases (has (sets_of before listed) v) (has more v) (sym (here_holds v) ∙ h)) [ inl old ↦ inl old | inr new ↦ inr (refl, new) ],
              λ is. here_holds v ∙ (elim is [ inl old ↦ or_left (has (sets_of before listed) v) (has more v) old | inr new ↦ or_right (has (sets_of before listed) v) (has more v) new.1 ]),
            )
        | inr apart ↦
            let kept : has (sets_of after other) v ≡ has (sets_of before other) v = ap (λ found. has (unwrap_or found []) v) (added.others other apart) in (
              λ h. inl (sym kept ∙ h),
              λ is. elim is [ inl old ↦ kept ∙ old | inr new ↦ absurd (both_ways (is_eq (start_order listed other)) apart (tied_if_same listed other new.0)) ],
            )
      ]

  pub there_several : (other : ListedStart) → IsThere after other → IsThere before other ⊎ (listed ≡ other)
  there_several other is =
      elim (cases_Bool (is_eq (start_order listed other))) [
        | inl tied ↦ inr (same_if_tied listed other tied)
        | inr apart ↦ inl (ap is_some (sym (added.others other apart)) ∙ is)
      ]

-- none more
pub nothing_more : (origins : Origins) (listed : ListedStart) (more : List ℕ) → length more ≡ 0 → (other : ListedStart) (v : ℕ)
    → HoldsIt origins other v ↔ (HoldsIt origins other v ⊎ ((listed ≡ other) × (has more v ≡ true)))
nothing_more origins listed [] none other v = (λ h. inl h, λ is. elim is [ inl old ↦ old | inr new ↦ absurd (true≢false (sym new.1)) ])
nothing_more origins listed (m ∷ ms) none other v = absurd (omega arith)

-- ---- item by item

none_read : {g : Grammar} {s : StartKind} {v : ℕ} → ReadBelow g 0 s v → ⊥
none_read is = let below = is.below in absurd (omega arith)

pub no_items : (g : Grammar) (origins : Origins) → origins.entries ≡ [] → AreItemOrigins g 0 origins
no_items g origins empty = record {
  held = λ listed v. (
    λ h. absurd (true≢false (sym h ∙ ap (λ found. has (unwrap_or found []) v) (none listed))),
    λ is. absurd (none_read is.0),
  );
  listed = λ listed is. absurd (true≢false (sym is ∙ ap is_some (none listed)));
}
  where
    none : (listed : ListedStart) → get start_order origins listed ≡ None
    none listed = rw empty refl

pub one_item_more : (g : Grammar) (k : ℕ) (readers : List (List ℕ)) (added : ListedStart) (before after : Origins) → k < length g.words → AreReaders g (length g.nodes) readers
    → AreOwn g (form.Leaf (leaf.Word k)) (added ∷ []) → AreItemOrigins g k before
    → ((other : ListedStart) (v : ℕ) → HoldsIt after other v ↔ (HoldsIt before other v ⊎ ((added ≡ other) × (has (numbers_at readers k) v ≡ true))))
    → ((other : ListedStart) → IsThere after other → IsThere before other ⊎ (added ≡ other)) → AreItemOrigins g (k + 1) after
one_item_more g k readers added before after inside read own are more there = record {
  held = λ listed v. (
    λ h. elim ((more listed v).0 h) [
      | inl old ↦ let is = (are.held listed v).0 old in (further is.0, is.1)
      | inr new ↦
          let gives = (own.members listed).0 (inl new.0) in
          (record { item = k; below = omega arith; there = ((read.members k v inside).0 new.1).1; own = gives.own }, gives.named)
    ],
    λ is. (more listed v).1 (split listed v is.0 is.1),
  );
  listed = λ listed is. elim (there listed is) [ inl old ↦ are.listed listed old | inr new ↦ ((own.members listed).0 (inl new)).named ];
}
  where
    further : {s : StartKind} {v : ℕ} → ReadBelow g k s v → ReadBelow g (k + 1) s v
    further is = let below = is.below in record { item = is.item; below = omega arith; there = is.there; own = is.own }

    split : (listed : ListedStart) (v : ℕ) → ReadBelow g (k + 1) listed.start v → IsListed g listed → HoldsIt before listed v ⊎ ((added ≡ listed) × (has (numbers_at readers k) v ≡ true))
    split listed v is named =
        elim (cases_eq is.item k) [
          | inl same ↦
              let gives : OwnStart g (form.Leaf (leaf.Word k)) listed.start = subst (λ w. OwnStart g (form.Leaf (leaf.Word w)) listed.start) same is.own in
              let reads : ReadsItem g k v = subst (λ w. ReadsItem g w v) same is.there in
              let held = (read.members k v inside).1 (slice_get_within g.nodes v (form.Leaf (leaf.Word k)) reads, reads) in
              elim ((own.members listed).1 (record { own = gives; named = named })) [ inl one ↦ inr (one, held) | inr none ↦ absurd none ]
          | inr ne ↦
              let below = is.below in
              inl ((are.held listed v).1 (record { item = is.item; below = omega arith; there = is.there; own = is.own }, named))
        ]

-- ---- then node by node

pub items_first : (g : Grammar) (origins : Origins) → AreItemOrigins g (length g.words) origins → AreMixedOrigins g 0 origins
items_first g origins are = record {
  held = λ listed v. (
    λ h. let is = (are.held listed v).0 h in (inr is.0, is.1),
    λ is. elim is.0 [ inl none ↦ absurd (nowhere none) | inr read ↦ (are.held listed v).1 (read, is.1) ],
  );
  listed = are.listed;
  plain = λ p n below at is. absurd (omega arith);
}
  where
    nowhere : {s : StartKind} {v : ℕ} → SourceBelow g 0 s v → ⊥
    nowhere is = let below = is.below in absurd (omega arith)

further_source : {g : Grammar} {count : ℕ} {s : StartKind} {v : ℕ} → SourceBelow g count s v → SourceBelow g (count + 1) s v
further_source is = let below = is.below in record { place = is.place; node = is.node; below = omega arith; there = is.there; source = is.source }

last_source : {g : Grammar} {count : ℕ} (n : Node) {s : StartKind} {v : ℕ} → slice_get g.nodes count ≡ Some n → SourceBelow g (count + 1) s v → SourceBelow g count s v ⊎ SourceAt g count n s v
last_source {g} {count} n {s} {v} at is =
    elim (cases_eq is.place count) [
      | inl same ↦
          let one : is.node ≡ n = same_Some is.node n (sym is.there ∙ (ap (slice_get g.nodes) same ∙ at)) in
          inr (subst (λ p. SourceAt g p n s v) same (subst (λ m. SourceAt g is.place m s v) one is.source))
      | inr ne ↦ let below = is.below in inl (record { place = is.place; node = is.node; below = omega arith; there = is.there; source = is.source })
    ]

last_plain : {g : Grammar} {count : ℕ} (n : Node) → slice_get g.nodes count ≡ Some n → (IsPlain g n → (start : StartKind) × OwnStart g n start)
    → ((p : ℕ) (m : Node) → p < count → slice_get g.nodes p ≡ Some m → IsPlain g m → (start : StartKind) × OwnStart g m start)
    → (p : ℕ) (m : Node) → p < count + 1 → slice_get g.nodes p ≡ Some m → IsPlain g m → (start : StartKind) × OwnStart g m start
last_plain {g} {count} n at plain before p m below known is =
    elim (cases_eq p count) [
      | inl same ↦
          let one : n ≡ m = same_Some n m (sym at ∙ (ap (slice_get g.nodes) (sym same) ∙ known)) in
          subst (λ x. (start : StartKind) × OwnStart g x start) one (plain (subst (IsPlain g) (sym one) is))
      | inr ne ↦ before p m (omega arith) known is
    ]

pub other_node_more : (g : Grammar) (count : ℕ) (n : Node) (before after : Origins) → slice_get g.nodes count ≡ Some n → AreMixedOrigins g count before
    → ((other : ListedStart) (v : ℕ) → HoldsIt after other v ↔ (HoldsIt before other v ⊎ (SourceAt g count n other.start v × IsListed g other)))
    → ((other : ListedStart) → IsThere after other → IsThere before other ⊎ IsListed g other)
    → (IsPlain g n → (start : StartKind) × OwnStart g n start) → AreMixedOrigins g (count + 1) after
other_node_more g count n before after at are added there plain = record {
  held = λ listed v. (
    λ h. elim ((added listed v).0 h) [
      | inl old ↦
          let is = (are.held listed v).0 old in
          (elim is.0 [ inl source ↦ inl (further_source source) | inr read ↦ inr read ], is.1)
      | inr new ↦ (inl (record { place = count; node = n; below = omega arith; there = at; source = new.0 }), new.1)
    ],
    λ is. (added listed v).1 (elim is.0 [
      | inl source ↦ elim (last_source n at source) [ inl old ↦ inl ((are.held listed v).1 (inl old, is.1)) | inr new ↦ inr (new, is.1) ]
      | inr read ↦ inl ((are.held listed v).1 (inr read, is.1))
    ]),
  );
  listed = λ listed is. elim (there listed is) [ inl old ↦ are.listed listed old | inr new ↦ new ];
  plain = last_plain n at plain are.plain;
}

-- what reads words has been met with its item
read_source : {g : Grammar} {w p v : ℕ} {s : StartKind} → slice_get g.nodes p ≡ Some (form.Leaf (leaf.Word w)) → w < length g.words → SourceAt g p (form.Leaf (leaf.Word w)) s v → ReadBelow g (length g.words) s v
read_source {w = w} at inside (source_of.own is) = record { item = w; below = inside; there = at; own = is }

pub reader_more : (g : Grammar) (count w : ℕ) (origins : Origins) → slice_get g.nodes count ≡ Some (form.Leaf (leaf.Word w))
    → ((s : StartKind) → OwnStart g (form.Leaf (leaf.Word w)) s → w < length g.words) → (IsPlain g (form.Leaf (leaf.Word w)) → (start : StartKind) × OwnStart g (form.Leaf (leaf.Word w)) start)
    → AreMixedOrigins g count origins → AreMixedOrigins g (count + 1) origins
reader_more g count w origins at inside plain are = record {
  held = λ listed v. (
    λ h. let is = (are.held listed v).0 h in (elim is.0 [ inl source ↦ inl (further_source source) | inr read ↦ inr read ], is.1),
    λ is. (are.held listed v).1 (
      elim is.0 [
        | inl source ↦ elim (last_source (form.Leaf (leaf.Word w)) at source) [ inl old ↦ inl old | inr new ↦ inr (read_source at (own_inside new) new) ]
        | inr read ↦ inr read
      ],
      is.1,
    ),
  );
  listed = are.listed;
  plain = last_plain (form.Leaf (leaf.Word w)) at plain are.plain;
}
  where
    own_inside : {s : StartKind} {v : ℕ} → SourceAt g count (form.Leaf (leaf.Word w)) s v → w < length g.words
    own_inside (source_of.own is) = inside _ is

pub all_nodes : (g : Grammar) (origins : Origins) → AreMixedOrigins g (length g.nodes) origins → AreSoManyOrigins g (length g.nodes) origins
all_nodes g origins are = record {
  held = λ listed v. (
    λ h. let is = (are.held listed v).0 h in (elim is.0 [ inl source ↦ source | inr read ↦ source read ], is.1),
    λ is. (are.held listed v).1 (inl is.0, is.1),
  );
  listed = are.listed;
  plain = are.plain;
}
  where
    source : {s : StartKind} {v : ℕ} → ReadBelow g (length g.words) s v → SourceBelow g (length g.nodes) s v
    source {s} {v} is = record {
      place = v;
      node = form.Leaf (leaf.Word is.item);
      below = slice_get_within g.nodes v (form.Leaf (leaf.Word is.item)) is.there;
      there = is.there;
      source = source_of.own is.own;
    }

-- what reads an item reads words
reads_item : (n : Node) → is_some (item_read n) ≡ true → (w : ℕ) × (n ≡ form.Leaf (leaf.Word w))
reads_item (form.Leaf (leaf.Word w)) e = (w, refl)
reads_item (form.Leaf (leaf.Satisfy class)) e = absurd (true≢false (sym e))
reads_item (form.Leaf (leaf.String text)) e = absurd (true≢false (sym e))
reads_item (form.Leaf (leaf.Declare class)) e = absurd (true≢false (sym e))
reads_item (form.Leaf (leaf.NotFollowedBy class)) e = absurd (true≢false (sym e))
reads_item (form.Leaf leaf.EndOfText) e = absurd (true≢false (sym e))
reads_item (form.Around around part) e = absurd (true≢false (sym e))
reads_item (form.Expression builders part) e = absurd (true≢false (sym e))
reads_item (form.Seq parts) e = absurd (true≢false (sym e))
reads_item (form.Choice parts) e = absurd (true≢false (sym e))
reads_item (form.Many part) e = absurd (true≢false (sym e))
reads_item (form.Chain side builder operand separator) e = absurd (true≢false (sym e))
reads_item (form.Rule rule) e = absurd (true≢false (sym e))

own_within : {g : Grammar} {w : ℕ} {s : StartKind} → OwnStart g (form.Leaf (leaf.Word w)) s → w < length g.words
own_within {g} {w} (own_of.word {item = item} at heads rest reserved) = slice_get_within g.words w item at

plain_within : {g : Grammar} {w : ℕ} → IsPlain g (form.Leaf (leaf.Word w)) → w < length g.words
plain_within {g} {w} (plain.word {item = item} at) = slice_get_within g.words w item at
plain_within (plain.key is) = elim is [ ]

listed_at : (starts : List ListedStart) (w : ℕ) → w < length starts → (listed : ListedStart) × (slice_get starts w ≡ Some listed)
listed_at [] w inside = absurd (omega arith)
listed_at (s ∷ ss) zero inside = (s, refl)
listed_at (s ∷ ss) (suc w) inside = listed_at ss w (omega arith)

pub word_node_more : (g : Grammar) (count : ℕ) (n : Node) (origins : Origins) (words : WordStarts) → slice_get g.nodes count ≡ Some n → is_some (item_read n) ≡ true
    → AreWordStarts g words → AreMixedOrigins g count origins → AreMixedOrigins g (count + 1) origins
word_node_more g count n origins words at reads starts are =
    let word = reads_item n reads in
    let w = word.0 in
    let plain_so : IsPlain g (form.Leaf (leaf.Word w)) → (start : StartKind) × OwnStart g (form.Leaf (leaf.Word w)) start =
    λ is.
    let inside = plain_within is in
    let long = starts.items.long in
    let one = listed_at words.items.items w (omega arith) in
    (starts.items.each w one.0 one.1).there is in
    reader_more g count w origins (at ∙ ap Some word.1) (λ s is. own_within is) plain_so are

-- ---- who reads an item

item_is : (n : Node) (w : ℕ) → item_read n ≡ Some w → n ≡ form.Leaf (leaf.Word w)
item_is n w e =
    let word = reads_item n (ap is_some e) in
    let same : word.0 ≡ w = same_Some word.0 w (sym (ap item_read word.1) ∙ e) in
    word.1 ∙ ap (λ u. form.Leaf (leaf.Word u)) same

-- a node that reads none
pub no_reader : (g : Grammar) (count : ℕ) (n : Node) (lists : List (List ℕ)) → slice_get g.nodes count ≡ Some n → ((w : ℕ) → item_read n ≡ Some w → ⊥) → AreReaders g count lists → AreReaders g (count + 1) lists
no_reader g count n lists at none are = record {
  long = are.long;
  members = λ u v inside. (
    λ h. let is = (are.members u v inside).0 h in (let below = is.0 in omega arith, is.1),
    λ is.
        elim (cases_eq v count) [
          | inl same ↦ absurd (none u (ap item_read (same_Some n (form.Leaf (leaf.Word u)) (sym at ∙ (ap (slice_get g.nodes) (sym same) ∙ is.1)))))
          | inr ne ↦ (are.members u v inside).1 (let below = is.0 in omega arith, is.1)
        ],
  );
}

-- a node that reads one
pub reader_joined : (g : Grammar) (count : ℕ) (n : Node) (w : ℕ) (lists : List (List ℕ)) → slice_get g.nodes count ≡ Some n → item_read n ≡ Some w → AreReaders g count lists → AreReaders g (count + 1) (joined lists w count)
reader_joined g count n w lists at reads are = record {
  long = each_length lists (w ∷ []) count ∙ are.long;
  members = λ u v inside.
      elim (cases_eq u w) [
        | inl same ↦ subst (λ x. (has (numbers_at (joined lists w count) x) v ≡ true) ↔ ((v < count + 1) × ReadsItem g x v)) (sym same) (here v (subst (λ x. x < length g.words) same inside))
        | inr ne ↦
            let kept = ap (λ ns. has ns v) (joined_other lists w count u ne) in (
              λ h. let is = (are.members u v inside).0 (sym kept ∙ h) in (let below = is.0 in omega arith, is.1),
              λ is.
                  elim (cases_eq v count) [
                    | inl last ↦ absurd (ne (same_Some u w (ap item_read (same_Some (form.Leaf (leaf.Word u)) (form.Leaf (leaf.Word w)) (sym is.1 ∙ (ap (slice_get g.nodes) last ∙ word))))))
                    | inr before ↦ kept ∙ (are.members u v inside).1 (let below = is.0 in omega arith, is.1)
                  ],
            )
      ];
}
  where
    word : ReadsItem g w count
    word = at ∙ ap Some (item_is n w reads)

    here : (v : ℕ) → w < length g.words → (has (numbers_at (joined lists w count) w) v ≡ true) ↔ ((v < count + 1) × ReadsItem g w v)
    here v inside =
        let long = are.long in
        let held : has (numbers_at (joined lists w count) w) v ≡ (has (numbers_at lists w) v || (count == v)) = ap (λ ns. has ns v) (joined_same lists w count (omega arith)) ∙ has_push (numbers_at lists w) count v in (
          λ h. elim (or_cases (has (numbers_at lists w) v) (count == v) (sym held ∙ h)) [
            | inl old ↦ let is = (are.members w v inside).0 old in (let below = is.0 in omega arith, is.1)
            | inr new ↦ let last = eqb-true count v new in (omega arith, subst (ReadsItem g w) last word)
          ],
          λ is. held ∙ (elim (cases_eq v count) [
            | inl last ↦ or_right (has (numbers_at lists w) v) (count == v) (eq-eqb count v (sym last))
            | inr before ↦ or_left (has (numbers_at lists w) v) (count == v) ((are.members w v inside).1 (let below = is.0 in omega arith, is.1))
          ]),
        )
