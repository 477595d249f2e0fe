use Rattle.std.proofs.Common.{◌≡◌, [], ◌∷◌, ◌++◌, List, ℕ, ap, ◌∙◌}
use Rattle.pg_text_pieces.specs.Writing.{pieces_bytes}
use Rattle.pg_predict.specs.Findings.{line_of}
use Rattle.pg_predict.specs.Found.{Found}
use Rattle.pg_text_pieces.proofs.Puts.{on_err, three_put, three_first, three_second, three_third}
use Rattle.pg_predict.proofs.Told.{line_parts, line_pieces}
use Rattle.pg_predict.proofs.finding.Finding.put.Goals as goal

pub returns-in_err-put_pieces-clause-prefix : goal.returns-in_err-put_pieces-clause-prefix
returns-in_err-put_pieces-clause-prefix g c =
    let contents = g.W.Write.contents in
    let parts =
    line_parts c.args.self.now (pieces_bytes c.front-front.result) (pieces_bytes c.words-words.result)
    (line_pieces c.self.inside.source.now c.self.inside.place c.self.inside.kind _ _ _ c.self.invariant c.code.ensures c.front-front.ensures c.words-words.ensures
    ∙ ap (λ (f : Found). f.finding.line) c.self.view_is) in
    on_err c.from_residual.result _
    (three_first (contents c.args.writer.now.inner) (contents c.put_pieces.new.writer.inner) c.args.buffer.now.items (pieces_bytes c.front-front.result) (pieces_bytes c.words-words.result) (10 ∷ [])
    (line_of c.args.self.now.finding) parts c.in_err-put_pieces.ensures.prefix)

pub returns-in_err-put_pieces-2-clause-prefix : goal.returns-in_err-put_pieces-2-clause-prefix
returns-in_err-put_pieces-2-clause-prefix g c =
    let contents = g.W.Write.contents in
    let parts =
    line_parts c.args.self.now (pieces_bytes c.front-front.result) (pieces_bytes c.words-words.result)
    (line_pieces c.self.inside.source.now c.self.inside.place c.self.inside.kind _ _ _ c.self.invariant c.code.ensures c.front-front.ensures c.words-words.ensures
    ∙ ap (λ (f : Found). f.finding.line) c.self.view_is) in
    on_err c.from_residual-in_err-put_pieces-2.result _
    (three_second (contents c.args.writer.now.inner) (contents c.put_pieces.new.writer.inner) (contents c.put_pieces-2.new.writer.inner) c.args.buffer.now.items c.put_pieces.new.buffer.items
    (pieces_bytes c.front-front.result) (pieces_bytes c.words-words.result) (10 ∷ []) (line_of c.args.self.now.finding) parts
    c.in_ok-put_pieces.ensures.ok c.in_err-put_pieces-2.ensures.prefix)

pub returns-in_err-put-clause-prefix : goal.returns-in_err-put-clause-prefix
returns-in_err-put-clause-prefix g c =
    let contents = g.W.Write.contents in
    let parts =
    line_parts c.args.self.now (pieces_bytes c.front-front.result) (pieces_bytes c.words-words.result)
    (line_pieces c.self.inside.source.now c.self.inside.place c.self.inside.kind _ _ _ c.self.invariant c.code.ensures c.front-front.ensures c.words-words.ensures
    ∙ ap (λ (f : Found). f.finding.line) c.self.view_is) in
    on_err c.from_residual-in_err-put.result _
    (three_third (contents c.args.writer.now.inner) (contents c.put_pieces.new.writer.inner) (contents c.put_pieces-2.new.writer.inner) (contents c.put.new.writer.inner) c.args.buffer.now.items
    c.put_pieces.new.buffer.items c.put_pieces-2.new.buffer.items (pieces_bytes c.front-front.result) (pieces_bytes c.words-words.result) (10 ∷ [])
    (line_of c.args.self.now.finding) parts c.in_ok-put_pieces.ensures.ok c.in_ok-put_pieces-2.ensures.ok c.in_err-put.ensures.prefix)

pub returns-clause-ok : goal.returns-clause-ok
returns-clause-ok g c =
    let contents = g.W.Write.contents in
    let parts =
    line_parts c.args.self.now (pieces_bytes c.front-front.result) (pieces_bytes c.words-words.result)
    (line_pieces c.self.inside.source.now c.self.inside.place c.self.inside.kind _ _ _ c.self.invariant c.code.ensures c.front-front.ensures c.words-words.ensures
    ∙ ap (λ (f : Found). f.finding.line) c.self.view_is) in
    three_put (contents c.args.writer.now.inner) (contents c.put_pieces.new.writer.inner) (contents c.put_pieces-2.new.writer.inner) (contents c.put.new.writer.inner) c.args.buffer.now.items
    c.put_pieces.new.buffer.items c.put_pieces-2.new.buffer.items c.put.new.buffer.items (pieces_bytes c.front-front.result) (pieces_bytes c.words-words.result) (10 ∷ [])
    (line_of c.args.self.now.finding) parts c.in_ok-put_pieces.ensures.ok c.in_ok-put_pieces-2.ensures.ok c.in_ok-put.ensures.ok
