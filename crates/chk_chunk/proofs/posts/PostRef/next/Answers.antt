use Rattle.std.proofs.Common.{◌-◌, ap, sym, ◌∙◌, subst}
use Rattle.std.specs.Prelude.{IsTrue}
use Rattle.chk_chunk.specs.Keys.{Chunk, is_chunk}
use Rattle.chk_chunk.specs.Faults.{chunks_fault}
use Rattle.chk_chunk.proofs.PostGrammar.{one_and_more, chunk_there, chunk_is_valid}
use Rattle.chk_chunk.proofs.posts.PostRef.next.Goals as goal

pub invariant_of-self : goal.invariant_of-self
invariant_of-self c =
    let p = c.self.inside in
    ap (λ n. chunks_fault (p.left - 1) n p.body.now) c.in-Ok.ensures.chunk.behind
    ∙ (one_and_more p.left p.at p.body.now c.if-self-eq0.false c.self.invariant).1

pub unreachable-requires : goal.unreachable-requires
unreachable-requires c =
    let p = c.self.inside in
    let fine = (one_and_more p.left p.at p.body.now c.if-self-eq0.false c.self.invariant).0 in
    let fault = c.in-Err.ensures.fault in
    absurd (cc (fine, fault))

pub returns-clause-valid : goal.returns-clause-valid
returns-clause-valid c =
    let p = c.self.inside in
    let found = c.in-Ok.ensures.chunk in
    subst (λ (x : Chunk). IsTrue (is_chunk x)) (sym found.is)
    (chunk_is_valid p.at p.body.now (chunk_there p.at p.body.now found.fine))
