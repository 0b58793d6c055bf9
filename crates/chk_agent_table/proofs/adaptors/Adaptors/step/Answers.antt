use Rattle.std.proofs.Common.{sym, subst}
use Rattle.std.specs.Prelude.{IsTrue}
use Rattle.std.proofs.lemmas.Option.{same_Some, slice_get_within}
use Rattle.std.proofs.Common.{◌∙◌}
use Rattle.chk_world.specs.Checkpoints.{is_after_text}
use Rattle.chk_agent_adaptor.specs.Adaptors.{Adaptor, IsPlaced, is_stepped}
use Rattle.chk_agent_adaptor.specs.Steps.{IsStepped}
use Rattle.chk_agent_table.proofs.Writes.{below, is_live, same_at, seen_written, stands, step_alike}
use Rattle.chk_agent_table.proofs.Writes.{writes}
use Rattle.chk_agent_table.proofs.adaptors.Adaptors.step.Goals as goal

pub index_mut-requires : goal.index_mut-requires
index_mut-requires g c =
    let r = c.requires.read_on in
    below c.self.inside c.args.number c.args.self.now c.self.view_is
    (slice_get_within c.args.self.now.items c.args.number r.0 r.1)

pub step-requires : goal.step-requires
step-requires g c =
    let r = c.requires.read_on in
    let same = same_at c.self.inside c.args.number c.args.self.now c.self.view_is
    c.index_mut.result.now r.0
    c.index_mut.ensures.value r.1 in
    record { read_on = subst (λ (x : Adaptor). IsTrue (is_stepped x.phase)) (sym same) r.2 }

pub invariant_of-self : goal.invariant_of-self
invariant_of-self g c =
    let r = c.requires.read_on in
    let x = c.index_mut.result.now in
    let same = same_at c.self.inside c.args.number c.args.self.now c.self.view_is x r.0
    c.index_mut.ensures.value r.1 in
    let live = is_live x.phase (subst (λ (x : Adaptor). IsTrue (is_stepped x.phase)) (sym same)
    r.2) in
    let made = c.step.ensures.state in
    writes c.self.inside c.args.number x c.step.new.self c.self.invariant c.index_mut.ensures.value
    (step_alike made.marks made.next c.step.result x c.step.new.self made.is live)

pub returns-clause-state : goal.returns-clause-state
returns-clause-state g c a at =
    let x = c.index_mut.result.now in
    let same = same_at c.self.inside c.args.number c.args.self.now c.self.view_is x a
    c.index_mut.ensures.value at in
    record {
      adaptor = c.step.new.self;
      there = stands c.self.inside c.args.number x c.step.new.self c.index_mut.ensures.value;
      others = seen_written c.self.inside c.args.number c.args.self.now c.self.view_is
          c.step.new.self;
      made =
          subst
          (λ (x : Adaptor). IsStepped c.args.who.now x c.step.result c.step.new.self
          (g.S.Site.told c.args.site.now) (g.S.Site.told c.step.new.site))
          same c.step.ensures.state;
    }

pub returns-clause-told : goal.returns-clause-told
returns-clause-told g c a b at there stamped source cluster lines saved =
    let x = c.index_mut.result.now in
    let same = same_at c.self.inside c.args.number c.args.self.now c.self.view_is x a
    c.index_mut.ensures.value at in
    let new = same_Some c.step.new.self b
    (sym (stands c.self.inside c.args.number x c.step.new.self c.index_mut.ensures.value) ∙
    there) in
    rw (← same, ← new) (c.step.ensures.told stamped source cluster lines saved)

pub returns-clause-placed : goal.returns-clause-placed
returns-clause-placed g c b there =
    let x = c.index_mut.result.now in
    subst IsPlaced
    (same_Some c.step.new.self b
    (sym (stands c.self.inside c.args.number x c.step.new.self c.index_mut.ensures.value) ∙ there))
    c.step.ensures.placed

pub returns-clause-named : goal.returns-clause-named
returns-clause-named g c a at =
    let x = c.index_mut.result.now in
    subst (λ (r : Adaptor). IsTrue (is_after_text r.read.after))
    (same_at c.self.inside c.args.number c.args.self.now c.self.view_is x a
    c.index_mut.ensures.value at)
    c.step.ensures.named
