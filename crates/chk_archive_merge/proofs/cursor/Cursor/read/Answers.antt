use Rattle.std.proofs.Common.{◌∙◌, length, refl, sym, ap, arith}
use Rattle.std.specs.Prelude.{nat_lt}
use Rattle.std.proofs.lemmas.Result.{err_from_is_err_and}
use Rattle.chk_site.proofs.Leads.{leads_as, leads_none}
use Rattle.chk_record_index.specs.Pieces.{bytes_in}
use Rattle.chk_world.specs.JobSteps.{ReadsFile}
use Rattle.chk_book.proofs.Works.{works_none}
use Rattle.chk_book.proofs.Segmented.{unsaid as led_anyhow}
use Rattle.chk_archive_merge.proofs.Going.{more_gone, all_fed}
use Rattle.chk_record_index.proofs.Gathering.{small_bytes}
use Rattle.chk_archive_merge.proofs.cursor.Cursor.read.Goals as goal

pub returns-in_err-piece-clause-raw : goal.returns-in_err-piece-clause-raw
returns-in_err-piece-clause-raw g c names held one small =
    let p = err_from_is_err_and c.from_residual.result c.from_residual.ensures.1 in
    rw (p.1, p.2) (led_anyhow (λ h. tt) c.in_err-piece.ensures.works)

pub returns-in_err-feed-clause-raw : goal.returns-in_err-feed-clause-raw
returns-in_err-feed-clause-raw g c names held one small =
    let p = err_from_is_err_and c.from_residual-in_err-feed.result c.from_residual-in_err-feed.ensures.1 in
    rw (p.1, p.2) (led_anyhow (λ h. tt) c.in_ok-piece.ensures.works)

pub returns-then-self-clause-raw : goal.returns-then-self-clause-raw
returns-then-self-clause-raw g c names held one small =
    leads_none _ (λ h x. (x, refl, λ records gone. gone.all c.if-self.true))

pub returns-then-len-eq0-clause-raw : goal.returns-then-len-eq0-clause-raw
returns-then-len-eq0-clause-raw g c names held one small =
    leads_as (λ h x. x)
    (λ h x. (
      x.0,
      refl,
      λ records gone.
          all_fed (bytes_in (held c.args.name.now)) (small_bytes (held c.args.name.now) small) c.args.self.now.pieces c.end.result c.end.ensures
          c.args.self.now c.in_ok-piece.piece refl x.1 (sym c.len.ensures ∙ c.if-len-eq0.true) records gone,
    )) (c.in_ok-piece.ensures.raw names held one)

pub feed-requires : goal.feed-requires
feed-requires g c =
    let few = c.in_ok-piece.ensures.few in
    let some = c.if-len-eq0.false in
    let long = c.len.ensures in
    let same = ap length c.as_slice.ensures in
    let sat = c.end.ensures in
    omega (arith, few, some, long, same, sat)

pub returns-clause-raw : goal.returns-clause-raw
returns-clause-raw g c names held one small =
    leads_as (λ h x. x)
    (λ h x. (
      x.0,
      λ records gone.
          more_gone (bytes_in (held c.args.name.now)) (small_bytes (held c.args.name.now) small) c.args.self.now.pieces c.end.result c.end.ensures
          c.args.self.now _ c.in_ok-piece.piece records refl x.1 c.feed.ensures.same.2
          (rw c.as_slice.ensures at c.in_ok-feed.ensures.fed) (ap (λ n. nat_lt n 262144) c.len-2.ensures) gone,
    )) (c.in_ok-piece.ensures.raw names held one)

pub returns-then-self-clause-works : goal.returns-then-self-clause-works
returns-then-self-clause-works g c = works_none ReadsFile _ _
