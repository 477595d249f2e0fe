use Rattle.std.proofs.Common.{◌≡◌, ◌+◌, ℕ, [], ◌∷◌, ◌++◌, true, take, slice_index, slice_set, sym, subst, ◌∙◌, arith}
use Rattle.std.proofs.lemmas.Bool.{true≢false}
use Rattle.std.proofs.lemmas.List.{take_more}
use Rattle.pg_graph.specs.Spread.{IsHandedOn}
use Rattle.pg_graph.proofs.HandingOn.{hands_grown, hands_past, hands_same}
use Rattle.pg_graph.proofs.handing.hand_on.Goals as goal
use Rattle.pg_graph.proofs.handing.hand_on.Goals.{then-to-sets+then-unite_within, else-to-sets, else-to-sets-via-then-to-sets+else-unite_within, else-to-sets-via-else-to-sets}

pub loop-to-preserved : goal.loop-to-preserved
loop-to-preserved c =
    let edges = c.args.edges.now in
    let from = c.args.from in
    let first = c.args.sets.now in
    let waits = c.args.waits.now in
    let i = c.loop-to.to-index in
    let to : ℕ = slice_index edges i in
    let done = take i edges in
    let old = c.loop-to.sets in
    let marks = c.loop-to.waits in
    let more : take (i + 1) edges ≡ done ++ to ∷ [] = take_more edges i 0 (omega arith) in
    subst (λ es. IsHandedOn es from first waits c.if-to-sets.sets c.if-to-sets.waits) (sym more)
    (elim c.if-to-sets.branch [
      | then-to-sets+then-unite_within w ↦
          let e = w.unite_within.ensures in
          subst (λ ws. IsHandedOn (done ++ to ∷ []) from first waits c.if-to-sets.sets ws) (sym w.waits-is)
          (subst (λ ss. IsHandedOn (done ++ to ∷ []) from first waits ss (slice_set marks to true)) (sym w.sets-is)
          (hands_grown done from to first waits old marks w.unite_within.new.sets c.loop-to.invariant (omega arith) e.others e.limit e.united (e.grown.0 w.if-unite_within.true) (omega arith)))
      | else-to-sets w ↦
          elim w.else-to-sets.branch [
            | else-to-sets-via-then-to-sets+else-unite_within v ↦
                let e = v.unite_within.ensures in
                subst (λ ws. IsHandedOn (done ++ to ∷ []) from first waits c.if-to-sets.sets ws) (sym w.waits-is)
                (subst (λ ss. IsHandedOn (done ++ to ∷ []) from first waits ss marks) (sym (w.sets-is ∙ v.sets-is))
                (hands_same done from to first waits old marks v.unite_within.new.sets c.loop-to.invariant (omega arith) e.others e.limit e.united
                (λ adds. true≢false (sym (e.grown.1 adds) ∙ v.if-unite_within.false))))
            | else-to-sets-via-else-to-sets v ↦
                subst (λ ws. IsHandedOn (done ++ to ∷ []) from first waits c.if-to-sets.sets ws) (sym w.waits-is)
                (subst (λ ss. IsHandedOn (done ++ to ∷ []) from first waits ss marks) (sym (w.sets-is ∙ v.sets-is))
                (hands_past done from to first waits old marks c.loop-to.invariant (omega arith)))
          ]
    ])
