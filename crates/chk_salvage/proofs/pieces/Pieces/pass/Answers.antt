use Rattle.std.proofs.Common.{refl, arith}
use Rattle.std.proofs.lemmas.List.{drop_all}
use Rattle.chk_salvage.proofs.AheadLemmas.{passed}
use Rattle.chk_salvage.proofs.pieces.Pieces.pass.Goals as goal

pub returns-clause-fed : goal.returns-clause-fed
returns-clause-fed c = λ fed missing f all.
    passed c.args.self.now _ c.requires.0 c.args.end c.requires.1 c.requires.2 refl refl
    (drop_all c.len-self.result c.args.self.now.bytes.items (omega (arith, c.len-self.ensures))) fed missing f all
