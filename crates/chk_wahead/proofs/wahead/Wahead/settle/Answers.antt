use Rattle.std.proofs.Common.{◌∙◌, refl, subst, List, ℕ, Ok}
use Rattle.chk_wahead.specs.declared.found.Plan.TheVariants.{DamagedNext, DamagedMark, Close, DropBuffer, DropMark, Rest}
use Rattle.chk_site.specs.Runs.{finished}
use Rattle.chk_wahead.specs.Faults.{IsDamageOf}
use Rattle.chk_wahead.specs.Names.{buffer_name, mark_name}
use Rattle.chk_wahead.proofs.Joining.{script_as}
use Rattle.chk_wahead.proofs.Fields.{seen_as, settle_by, removing_by}
use Rattle.chk_wahead.proofs.wahead.Wahead.settle.Goals as goal

pub returns-in-DamagedNext-clause-told : goal.returns-in-DamagedNext-clause-told
returns-in-DamagedNext-clause-told g c =
    let s = c.args.self.now in
    let known = seen_as c.self.inside s c.self.view_is c.self.invariant in
    settle_by c.args.plan DamagedNext s _ _ _ _ c.in-DamagedNext.is
    (subst (λ (w : List ℕ). IsDamageOf w c.damaged.result) (c.as_str.ensures.value ∙ known.next) c.damaged.ensures, refl)

pub returns-in-DamagedMark-clause-told : goal.returns-in-DamagedMark-clause-told
returns-in-DamagedMark-clause-told g c =
    let s = c.args.self.now in
    let known = seen_as c.self-in-DamagedMark.inside s c.self-in-DamagedMark.view_is c.self-in-DamagedMark.invariant in
    settle_by c.args.plan DamagedMark s _ _ _ _ c.in-DamagedMark.is
    (subst (λ (w : List ℕ). IsDamageOf w c.damaged-in-DamagedMark.result) (c.as_str-in-DamagedMark.ensures.value ∙ known.mark) c.damaged-in-DamagedMark.ensures, refl)

pub returns-in-Close-clause-told : goal.returns-in-Close-clause-told
returns-in-Close-clause-told g c =
    settle_by c.args.plan (Close c.in-Close.number c.in-Close.length) c.args.self.now _ _ _ _ c.in-Close.is
    (record {
      outside = c.close_left-done.result;
      result_is = c.finish.ensures.result;
      made = c.close_left-done.ensures.told;
      state_is = c.finish.ensures.new;
    })

pub returns-in-DropBuffer-clause-told : goal.returns-in-DropBuffer-clause-told
returns-in-DropBuffer-clause-told g c =
    let s = c.args.self.now in
    let known = seen_as c.self-in-DropBuffer.inside s c.self-in-DropBuffer.view_is c.self-in-DropBuffer.invariant in
    settle_by c.args.plan (DropBuffer c.in-DropBuffer.number) s _ _ _ _ c.in-DropBuffer.is
    (record {
      outside = c.remove-done.result;
      result_is = c.finish-in-DropBuffer.ensures.result;
      made =
          script_as (removing_by c.self-in-DropBuffer.inside.who s.who c.as_str-in-DropBuffer.result.now (buffer_name s.who.name) known.who (c.as_str-in-DropBuffer.ensures.value ∙ known.buffer))
          c.remove-done.ensures.told;
      state_is = c.finish-in-DropBuffer.ensures.new;
    })

pub returns-in-DropMark-clause-told : goal.returns-in-DropMark-clause-told
returns-in-DropMark-clause-told g c =
    let s = c.args.self.now in
    let known = seen_as c.self-in-DropMark.inside s c.self-in-DropMark.view_is c.self-in-DropMark.invariant in
    settle_by c.args.plan (DropMark c.in-DropMark.number) s _ _ _ _ c.in-DropMark.is
    (record {
      outside = c.remove-done-in-DropMark.result;
      result_is = c.finish-in-DropMark.ensures.result;
      made =
          script_as (removing_by c.self-in-DropMark.inside.who s.who c.as_str-in-DropMark.result.now (mark_name s.who.name) known.who (c.as_str-in-DropMark.ensures.value ∙ known.mark))
          c.remove-done-in-DropMark.ensures.told;
      state_is = c.finish-in-DropMark.ensures.new;
    })

pub returns-in-Rest-clause-told : goal.returns-in-Rest-clause-told
returns-in-Rest-clause-told g c =
    settle_by c.args.plan (Rest c.in-Rest.number) c.args.self.now _ _ _ _ c.in-Rest.is
    (record {
      outside = Ok tt;
      result_is = c.finish-in-Rest.ensures.result;
      made = finished;
      state_is = c.finish-in-Rest.ensures.new;
    })
