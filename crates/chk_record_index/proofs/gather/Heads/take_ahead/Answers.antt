use Rattle.std.proofs.Common.{◌-◌, [], ◌∷◌, ◌++◌, refl, sym, ap, ◌∙◌, arith}
use Rattle.chk_chunk.specs.Lent.{lent_key}
use Rattle.chk_salvage.specs.Ahead.{placed_ahead}
use Rattle.chk_record_index.specs.Heads.{head_with}
use Rattle.chk_record_index.proofs.Records.{is_chunk}
use Rattle.chk_record_index.proofs.gather.Heads.take_ahead.Goals as goal

pub returns-clause-ok : goal.returns-clause-ok
returns-clause-ok c =
    let found = c.in-Some.found in
    let key = lent_key c.in-Ok.key in
    let before = c.args.self.now in (
      found,
      c.in-Some.ensures.some,
      (let owed = c.in-Some.ensures.some.owed in omega arith),
      λ value size. (
        record { key = key; value = value },
        is_chunk c.args.most (placed_ahead found value) key c.in-Ok.ensures.key (sym (c.is_size.ensures.is key value refl refl size) ∙ c.if-not-is_size.false),
        c.in_ok-push.ensures.ok ∙ ap (λ n. before ++ head_with key (key.seq - n) c.args.file found.at ∷ []) (sym size),
      ),
    )
