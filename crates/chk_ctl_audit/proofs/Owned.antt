-- Which steps an audit adds.
use Rattle.std.proofs.Common.{◌≡◌, inl, inr, ℕ, List, [], ◌∷◌, Option, Some, None, Result, Ok, Err}
use Rattle.std.proofs.Common.{Bool, true, false, refl, sym, subst}
use Rattle.chk_site.specs.declared.acts.OutsideFault.{OutsideFault}
use Rattle.chk_site.specs.declared.acts.Who.{Who}
use Rattle.chk_site.specs.Acts.{Deed, deed}
use Rattle.chk_site.specs.History.{History, Step, Every}
use Rattle.chk_site.specs.Site.{Adds}
use Rattle.chk_site.proofs.Runs.{adds_as, adds_none, adds_then, every_join}
use Rattle.chk_replace.proofs.CallSteps.{OfEach, script_each}
use Rattle.chk_replace.specs.Load.{IsLook}
use Rattle.chk_world.specs.Books.{Book}
use Rattle.chk_world.specs.Checkpoints.{Line}
use Rattle.chk_world.specs.JobSteps.{IsOf, ReadsFile}
use Rattle.chk_world.specs.Sight.{job}
use Rattle.chk_checkpoint.specs.declared.Checkpoint.{Checkpoint}
use Rattle.chk_checkpoint.specs.declared.fault.CheckFault.{CheckFault}
use Rattle.chk_checkpoint.specs.Lines.{lines_of}
use Rattle.chk_record_index.specs.declared.fault.JobFault.{JobFault}
use Rattle.chk_book.specs.declared.lists.End.{End}
use Rattle.chk_cmd_output.specs.Printing.{PrintsInTurn}
use Rattle.chk_cmd_output.proofs.Printed.{prints_made, printings}
use Rattle.chk_ctl_passed.specs.Passing.{check_name}
use Rattle.chk_ctl_passed.proofs.Joined.{every_as}
use Rattle.chk_ctl_audit_log.specs.declared.summing.LogSum.{LogSum}
use Rattle.chk_ctl_audit_log.specs.Placing.{ReadsLogOf}
use Rattle.chk_ctl_sum.specs.declared.rests.Rest.{Rest}
use Rattle.chk_ctl_audit.specs.declared.audits.Compared.{Compared}
use Rattle.chk_ctl_audit.specs.Audits.{again, Audited, AuditedAgain, AuditedAs}
use Rattle.chk_ctl_audit.specs.Audits.{AuditedBy, AuditedOf, AuditsBy, LooksAtAudit}
use Rattle.chk_ctl_audit.specs.Audits.{once, reads_file, reads_log, says}
use Rattle.chk_ctl_audit.specs.Finding.{agent, all_found, ended as ended_source, failed}
use Rattle.chk_ctl_audit.specs.Finding.{FindsBy, FindsEach, FindsFrom, FindsLine, FindsLines}
use Rattle.chk_ctl_audit.specs.Finding.{FindsOne, found_at, goes_on, left_out, line_for, more, no_room, stops}
use Rattle.chk_ctl_audit.specs.Finding.{over, source_of}
use Rattle.chk_ctl_audit.specs.Streams.{audited, audited_all, AuditedStream, Audits, ended}
use Rattle.chk_ctl_audit.specs.Streams.{has_all, no_digest, FindsParts, ToldOf, ToldParts}
use Rattle.chk_join_sources.specs.declared.gathering.Side.{Side}
use Rattle.chk_ctl_audit_log.specs.Records.{reads_file as file_beside, reads_log as log_beside}
use Rattle.chk_ctl_audit_log.specs.Records.{ReadsBeside}

abbrev Own : Option History → Option History → Type 0
Own old new = Adds old new (Every LooksAtAudit)

-- calls of one kind are an audit's
of_kind : (K : Deed → Type 0) → ((call : Deed) → K call → AuditsBy call)
    → {old new : Option History} → Adds old new (Every (IsOf K)) → Own old new
of_kind K so told =
    adds_as (Every LooksAtAudit) told
    (λ a h x. every_as (IsOf K) LooksAtAudit
    (λ before step y. inl (by before step y)) a h x)
  where
    by : (before : History) (step : Step) → IsOf K before step → IsOf AuditsBy before step
    by before step (inl theirs) = inl theirs
    by before step (inr (own, call)) = inr (own, so (deed step.act) call)

pub files_own : {old new : Option History} → Adds old new (Every (IsOf ReadsFile)) → Own old new
files_own told = of_kind ReadsFile (λ call x. reads_file call x) told

log_own : (path : List ℕ) {old new : Option History}
    → Adds old new (Every (IsOf (ReadsLogOf path))) → Own old new
log_own path told = of_kind (ReadsLogOf path) (λ call x. reads_log path call x) told

check_own : (source : List ℕ) {old new : Option History}
    → Adds old new (Every (IsLook (agent source) (check_name (agent source)))) → Own old new
check_own source told =
    adds_as (Every LooksAtAudit) told
    (λ a h x. every_as (IsLook (agent source) (check_name (agent source))) LooksAtAudit
    (λ before step y. inr (agent source, refl, y)) a h x)

same_own : {old new : Option History} → new ≡ old → Own old new
same_own {old = old} same =
    subst (λ (now : Option History). Own old now) (sym same)
    (adds_none old (Every LooksAtAudit) (λ history. tt))

pub join_own : {old mid new : Option History} → Own old mid → Own mid new → Own old new
join_own p q =
    adds_then (Every LooksAtAudit) p q (λ a b h x y. every_join LooksAtAudit b a h x y)

-- ---- the streams that are found

one_own : (o : Option Line) (result : Result (Option ℕ) OutsideFault) {old new : Option History}
    → FindsOne o result old new → Own old new
one_own None result x = same_own x.0
one_own (Some l) (Ok None) x = absurd x
one_own (Some l) (Ok (Some begin)) x = log_own l.path x.own
one_own (Some l) (Err fault) x = log_own l.path x.own

line_own : (lines : List Line) (e : End) (found : List Rest) (result : Result (Unit {0}) JobFault)
    (next : List Rest) {old new : Option History} → FindsLine lines e found result next old new
    → Own old new
line_own lines e found result next (left_out one) = one_own (line_for lines e) (Ok None) one
line_own lines e found result next (found_at begin one has) =
    one_own (line_for lines e) (Ok (Some begin)) one
line_own lines e found result next (no_room begin one) =
    one_own (line_for lines e) (Ok (Some begin)) one
line_own lines e found result next (failed fault one) = one_own (line_for lines e) (Err fault) one

lines_own : (lines : List Line) (result : Result (Unit {0}) JobFault) (last : List Rest)
    (ends : List End) (found : List Rest) {old new : Option History}
    → FindsLines lines result last ends found old new → Own old new
lines_own lines result last ends found (all_found ok same) = same_own refl
lines_own lines result last ends found (goes_on {e = e} {ends = rest} {next = next} one others) =
    join_own (line_own lines e found (Ok tt) next one)
    (lines_own lines result last rest next others)
lines_own lines result last ends found (stops {e = e} {fault = fault} one is) =
    line_own lines e found (Err fault) last one

by_own : (who : Who) (given : Result Checkpoint CheckFault) (result : Result (Unit {0}) JobFault)
    (ends : List End) (found last : List Rest) {old new : Option History}
    → FindsBy who given result ends found last old new → Own old new
by_own who (Ok check) result ends found last x =
    lines_own (lines_of check) result last ends found x
by_own who (Err fault) result ends found last x = same_own x.0

from_own : (source : List ℕ) (result : Result (Unit {0}) JobFault) (ends : List End)
    (found last : List Rest) {old new : Option History}
    → FindsFrom source result ends found last old new → Own old new
from_own source result ends found last (inl x) =
    join_own (check_own source x.reads)
    (by_own (agent source) x.given result ends found last x.followed)
from_own source result ends found last (inr x) = same_own x.0

each_own : (result : Result (Unit {0}) JobFault) (last : List Rest) (ends : List End)
    (found : List Rest) {old new : Option History} → FindsEach result last ends found old new
    → Own old new
each_own result last ends found (over ok same) = same_own refl
each_own result last ends found (more {next = next} these rest is one x others) =
    join_own (from_own (source_of these) (Ok tt) these found next x)
    (each_own result last rest next others)
each_own result last ends found (ended_source these rest fault is one x err_is) =
    from_own (source_of these) (Err fault) these found last x

-- ---- the streams that are compared

prints_own : {lines : List (List ℕ)} {result : Result (Unit {0}) OutsideFault}
    {old new : Option History} → PrintsInTurn job lines result old new → Own old new
prints_own {lines = lines} prints =
    script_each LooksAtAudit (λ before step theirs. inl (inl theirs)) (each_says lines)
    (prints_made prints)
  where
    each_says : (lines : List (List ℕ)) → OfEach LooksAtAudit (printings job lines)
    each_says [] = tt
    each_says (line ∷ lines) = (
      (λ before answer files logs running honest.
          inl (inr (record { own = refl; running = running; honest = honest; by = refl }, says line))),
      each_says lines,
    )

beside_own : (path : List ℕ) {old new : Option History}
    → Adds old new (Every (IsOf (ReadsBeside path))) → Own old new
beside_own path told = of_kind (ReadsBeside path) (λ call x. by call x) told
  where
    by : (call : Deed) → ReadsBeside path call → AuditsBy call
    by call (file_beside one is) = reads_file call is
    by call (log_beside one is) = reads_log path call is

parts_own : (same : Bool) (side : Side) (r : Rest) (result : Result (Option ℕ) JobFault)
    {old new : Option History} → FindsParts same side r result old new → Own old new
parts_own true side r result x = same_own x.0
parts_own false side r result x = beside_own r.end.now.name x.own

line_told : (r : Rest) (digest : List ℕ) (found : LogSum) (parts : Result (Option ℕ) JobFault)
    (result : Result Bool JobFault) {old new : Option History}
    → ToldParts r digest found parts result old new → Own old new
line_told r digest found (Ok parts) result x = prints_own x.1.printed
line_told r digest found (Err fault) result x = same_own x.0

told_own : (side : Side) (r : Rest) (digest : List ℕ) (given : Result LogSum OutsideFault)
    (result : Result Bool JobFault) {old new : Option History}
    → ToldOf side r digest given result old new → Own old new
told_own side r digest (Ok found) result x =
    join_own (parts_own (has_all digest found) side r x.given x.finds)
    (line_told r digest found x.given result x.told)
told_own side r digest (Err fault) result x = same_own x.0

stream_own : (side : Side) (r : Rest) (digest : List ℕ) (result : Result Bool JobFault)
    {old new : Option History} → AuditedStream side r digest result old new → Own old new
stream_own side r digest result x =
    join_own (log_own r.end.now.name x.own) (told_own side r digest x.given result x.told)

audits_own : (side : Side) (result : Result Bool JobFault) (rests : List Rest)
    (digests : List (List ℕ)) (same : Bool) {old new : Option History}
    → Audits side result rests digests same old new → Own old new
audits_own side result rests digests same (audited_all ok) = same_own refl
audits_own side result rests digests same (no_digest ok) = same_own refl
audits_own side result rests digests same (ended {r = r} {digest = digest} {fault = fault} is x) =
    stream_own side r digest (Err fault) x
audits_own side result rests digests same (audited {r = r} {rests = rs} {digest = digest}
    {digests = ds} {one = one} x others) =
    join_own (stream_own side r digest (Ok one) x) (audits_own side result rs ds _ others)

compared_own : (folder : List ℕ) (b : Book) (rests : List Rest) (start : Option History)
    (given : Result (List (List ℕ)) JobFault) (result : Result Compared JobFault)
    {old new : Option History} → AuditedBy folder b rests start given result old new → Own old new
compared_own folder b rests start (Ok digests) result x =
    audits_own x.0 x.2.0 rests digests _ x.2.1
compared_own folder b rests start (Err fault) result x = same_own x.0

of_own : (folder : List ℕ) (b : Book) (rests : List Rest) (given : Result (Unit {0}) JobFault)
    (result : Result Compared JobFault) {old new : Option History}
    → AuditedOf folder b rests given result old new → Own old new
of_own folder b rests (Ok value) result x =
    join_own (files_own x.own) (compared_own folder b rests _ x.given result x.compared)
of_own folder b rests (Err fault) result x = same_own x.0

as_own : (folder : List ℕ) (given : Result Book JobFault) (result : Result Compared JobFault)
    {old new : Option History} → AuditedAs folder given result old new → Own old new
as_own folder (Ok b) result x =
    join_own (each_own x.given x.rests x.ends [] x.found)
    (of_own folder b x.rests x.given result x.audited)
as_own folder (Err fault) result x = same_own x.0

audited_own : (folder : List ℕ) (result : Result Compared JobFault) {old new : Option History}
    → Audited folder result old new → Own old new
audited_own folder result x =
    join_own (files_own x.own) (as_own folder x.given result x.audited)

-- all that an audit adds
pub again_own : (folder : List ℕ) (result : Result Compared JobFault) {old new : Option History}
    → AuditedAgain folder result old new → Own old new
again_own folder result (once has x) = audited_own folder result x
again_own folder result (again {given = given} has x y) =
    join_own (audited_own folder given x) (audited_own folder result y)
