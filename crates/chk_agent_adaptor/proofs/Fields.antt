-- What the fields stand for after a change of them.
use Rattle.std.proofs.Common.{◌≡◌, ℕ, List, [], ◌∷◌, ◌++◌, length, Option, None, Result, Ok, Err}
use Rattle.std.proofs.Common.{ap, sym, subst, ◌∙◌}
use Rattle.std.specs.Prelude.{OnErr, IsTrue}
use Rattle.chk_site.specs.declared.acts.OutsideFault.{OutsideFault}
use Rattle.chk_site.specs.declared.acts.Who.{Who}
use Rattle.chk_site.specs.History.{History}
use Rattle.chk_control.specs.Classes.{breaks_lines}
use Rattle.chk_tail.specs.declared.step.Step.{Step}
use Rattle.chk_tail.specs.Walks.{Spot, Way, Walks}
use Rattle.chk_tail.specs.Tails.{Tailing, base_spot}
use Rattle.chk_rotate.specs.Readers.{Reader as Rotated, IsRising, gone_on, rewound, stepped}
use Rattle.chk_rotate.proofs.Fields.{rewound_step}
use Rattle.chk_world.specs.Checkpoints.{is_after_text}
use Rattle.chk_agent_adaptor.specs.declared.reader.Reader.{Reader}
use Rattle.chk_agent_adaptor.specs.declared.reader.Reader.TheVariants.{Base}
use Rattle.chk_agent_adaptor.specs.declared.adaptor.Before.{Before}
use Rattle.chk_agent_adaptor.specs.declared.adaptor.Phase.{Phase}
use Rattle.chk_agent_adaptor.specs.declared.adaptor.Adaptor.TheInside.{Inside}
use Rattle.chk_agent_adaptor.specs.Adaptors.{Adaptor, IsPlaced, before_of}
use Rattle.chk_agent_adaptor.specs.Steps.{way_of, phase_after, stepped as gone, IsStepped}
use Rattle.chk_agent_adaptor.specs.Fields.{seen, reads_as, adaptor_view, Walked, IsSoundInside}
use Rattle.chk_agent_adaptor.proofs.Named.{newest_named}

-- a step of a reader of the base file
pub base_stepped : (old new : Tailing) (result : Result Step OutsideFault)
    → new ≡ record old { at = new.at } → OnErr result (new ≡ old)
    → seen (Base new) ≡ stepped [] (base_spot new.start new.at) result (seen (Base old))
base_stepped old new (Ok step) moved refused =
    ap (λ (t : Tailing). record {
      path = t.path;
      lines = t.lines;
      marks = (record { after = None; first = t.start; offset = t.start }) ∷ [];
      read = base_spot new.start new.at;
    }) moved
base_stepped old new (Err fault) moved refused = ap (λ (t : Tailing). seen (Base t)) refused

-- A reader that is sent back to where an adaptor stood, makes it what it was.
pub undone : (i : Inside) (new : Reader) (before : Before) (a : Adaptor) (marks : List Spot)
    (next : Spot) (step : Step) → IsPlaced a → before ≡ before_of a
    → adaptor_view i ≡ gone marks next (Ok step) a
    → seen new ≡ rewound before.marks before.offset (seen i.reader)
    → adaptor_view (record i { reader = new; phase = before.phase }) ≡ a
undone i new before a marks next step placed stood view back =
    let r : Rotated = record {
      path = (seen i.reader).path;
      lines = (seen i.reader).lines;
      marks = a.marks;
      read = a.read;
    } in
    let went : seen i.reader ≡ gone_on marks next r =
    ap (λ (v : Adaptor). record r { marks = v.marks; read = v.read }) view in
    let is : seen new ≡ r =
    back
    ∙ (ap (λ (b : Before). rewound b.marks b.offset (seen i.reader)) stood
    ∙ (ap (rewound (length a.marks) a.read.offset) went
    ∙ rewound_step r marks next (record { rises = placed.rises; newest = placed.newest }))) in
    ap (λ (s : Rotated). record (adaptor_view i) {
      phase = before.phase;
      marks = s.marks;
      read = s.read;
    }) is
    ∙ (ap (λ (v : Adaptor). record v {
      phase = before.phase;
      marks = a.marks;
      read = a.read;
    }) view
    ∙ ap (λ (b : Before). record a { phase = b.phase }) stood)

-- ---- a step of an adaptor

-- it is where its reader is
pub placed : (i : Inside) → IsRising (seen i.reader) → IsPlaced (adaptor_view i)
placed i rising = record { rises = rising.rises; newest = rising.newest }

-- its generation comes first, or behind a suffix
pub read_named : (i : Inside) → IsSoundInside i
    → IsTrue (is_after_text (adaptor_view i).read.after)
read_named i sound =
    let r = seen i.reader in
    subst (λ (p : Spot). IsTrue (is_after_text p.after)) sound.reader.rising.newest
    (newest_named r.marks r.read.offset sound.reader.named)

-- its reader reads as it does
same_way : (who : Who) (i : Inside) → IsSoundInside i
    → reads_as who i.reader ≡ way_of who (adaptor_view i)
same_way who i sound =
    ap (λ p. record (reads_as who i.reader) { path = p }) sound.path
    ∙ (ap (λ b. record (reads_as who i.reader) { path = i.path; lines = b }) sound.lines
    ∙ ap (λ b. record { who = who; path = i.path; lines = breaks_lines i.class; rotated = b })
    sound.over)

as_it_reads : (who : Who) (i : Inside) → IsSoundInside i → (result : Result Step OutsideFault)
    (next : Spot) (marks : List Spot) {before after : Option History}
    → Walks (reads_as who i.reader) result next (seen i.reader).read marks before after
    → Walks (way_of who (adaptor_view i)) result next (seen i.reader).read marks before after
as_it_reads who i sound result next marks {before = before} {after = after} walks =
    subst (λ (w : Way). Walks w result next (seen i.reader).read marks before after)
    (same_way who i sound) walks

-- what was refused leaves it
pub refused : (who : Who) (i : Inside) (new : Reader) (fault : OutsideFault)
    {before after : Option History} → IsSoundInside i
    → Walked who i.reader (Err fault) new before after
    → IsStepped who (adaptor_view i) (Err fault)
    (adaptor_view (record i { reader = new })) before after
refused who i new fault sound w = record {
  marks = w.marks;
  next = w.next;
  walks = as_it_reads who i sound (Err fault) w.next w.marks w.walks;
  is = ap (λ (s : Rotated). record (adaptor_view i) { marks = s.marks; read = s.read }) w.is;
}

pub went_on : (who : Who) (i : Inside) (new : Reader) (step : Step) (phase : Phase) (end : ℕ)
    {before after : Option History} → IsSoundInside i
    → Walked who i.reader (Ok step) new before after → end ≡ (seen new).read.offset
    → ((next : Spot) → next.offset ≡ end → phase ≡ phase_after step next i.phase)
    → IsStepped who (adaptor_view i) (Ok step)
    (adaptor_view (record i { phase = phase; reader = new })) before after
went_on who i new step phase end sound w there does = record {
  marks = w.marks;
  next = w.next;
  walks = as_it_reads who i sound (Ok step) w.next w.marks w.walks;
  is =
      ap (λ (s : Rotated). record (adaptor_view i) {
        phase = phase;
        marks = s.marks;
        read = s.read;
      }) w.is
      ∙ ap (λ p. record (adaptor_view i) {
        phase = p;
        marks = (seen i.reader).marks ++ w.marks;
        read = w.next;
      }) (does w.next (sym (there ∙ ap (λ (s : Rotated). s.read.offset) w.is)));
}
