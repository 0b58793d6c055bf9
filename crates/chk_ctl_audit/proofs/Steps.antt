-- One step of an audit behind another.
use Rattle.std.proofs.Common.{◌≡◌, ◌∙◌, ℕ, ◌+◌, ◌-◌, ◌<◌, ◌≤◌, List, [], ◌∷◌, ◌++◌, Option}
use Rattle.std.proofs.Common.{Result, Ok, Err, Bool, refl, sym, ap, subst, drop, take, length}
use Rattle.std.proofs.Common.{arith, suc, true, false, get_or, min, map, inl, inr, ◌⊎◌, ◌&&◌}
use Rattle.std.proofs.Common.{Some, None}
use Rattle.std.proofs.lemmas.List.{take-append-drop, drop_all, drop-drop, take_all, take_more, length-drop}
use Rattle.chk_site.specs.declared.acts.OutsideFault.{OutsideFault}
use Rattle.chk_site.specs.declared.acts.Who.{Who}
use Rattle.chk_site.specs.History.{History}
use Rattle.chk_site.specs.Site.{OutsideCause}
use Rattle.chk_world.specs.Sight.{job}
use Rattle.chk_record_index.specs.declared.fault.JobFault.{JobFault}
use Rattle.chk_record_index.specs.declared.fault.JobFault.TheVariants as fault
use Rattle.chk_record_index.specs.Faults.{job_result, IsOfRead, JobCause}
use Rattle.chk_record_index.proofs.InTurn.{next_of}
use Rattle.chk_cmd_output.specs.Printing.{PrintsInTurn}
use Rattle.chk_world.proofs.BooksTrue.{each_append}
use Rattle.chk_world.proofs.Each.{Each}
use Rattle.chk_book.specs.declared.lists.End.{End}
use Rattle.chk_world.specs.Checkpoints.{is_line_of, Line}
use Rattle.chk_checkpoint.specs.declared.CheckLine.{CheckLine}
use Rattle.chk_checkpoint.specs.Lines.{shown}
use Rattle.chk_book.specs.Views.{end_view}
use Rattle.chk_ctl_sum.specs.declared.rests.Rest.{Rest}
use Rattle.chk_ctl_audit.specs.declared.audits.Compared.{Compared}
use Rattle.chk_ctl_audit.specs.Audits.{HasDamage}
use Rattle.chk_ctl_audit.specs.Finding.{AreOfOne, FindsLine, FindsLines, FindsOne, found_at}
use Rattle.chk_ctl_audit.specs.Finding.{goes_on, HasMore, IsFrom, line_for, no_room, source_of}
use Rattle.chk_ctl_audit.specs.Finding.{stops}
use Rattle.std.specs.Prelude.{IfErr, OnOk}
use Rattle.chk_ctl_audit.specs.Streams.{audited, audited_all, AuditedStream, Audits, ended}
use Rattle.chk_ctl_audit.specs.Streams.{no_digest, parts_of}
use Rattle.chk_join_sources.specs.declared.gathering.Side.{Side}
use Rattle.chk_ctl_audit_log.specs.declared.comparing.Met.{Met}
pub use Rattle.chk_ctl_audit_log.proofs.Causes.{call_cause, job_as, job_then, of_call}

-- a line that this process prints
pub printed_by : {who : Who} {text line : List ℕ} {given : Result (Unit {0}) OutsideFault}
    {old new : Option History} → who ≡ job → text ≡ line
    → PrintsInTurn who (text ∷ []) given old new → PrintsInTurn job (line ∷ []) given old new
printed_by {who = who} {text = text} {given = given} {old = old} {new = new} is same prints =
    subst (λ (l : List ℕ). PrintsInTurn job (l ∷ []) given old new) same
    (subst (λ (w : Who). PrintsInTurn w (text ∷ []) given old new) is prints)

pub result_cause : {T : Type 0} (result : Result T OutsideFault) (before now : ℕ)
    → OutsideCause before now result → JobCause before now (job_result result)
result_cause (Ok value) before now x = x
result_cause {T = T} (Err f) before now x = call_cause T T f before now x

-- damage isn't counted as a call that failed
pub damage_same : (given : Result Compared JobFault) (before now : ℕ) → HasDamage true given
    → JobCause before now given → now ≡ before
damage_same (Ok value) before now has cause = absurd has
damage_same (Err (fault.Outside call)) before now has cause = absurd has
damage_same (Err (fault.Damaged name at)) before now has cause = cause
damage_same (Err (fault.Spent number)) before now has cause = absurd has
damage_same (Err fault.NoMemory) before now has cause = absurd has

-- ---- lists in turn

pub split_at : {A : Type 0} (at past : ℕ) (xs : List A) → at < past
    → drop at xs ≡ take (past - at) (drop at xs) ++ drop past xs
split_at at past xs less =
    sym (take-append-drop (past - at) (drop at xs))
    ∙ ap (λ ys. take (past - at) (drop at xs) ++ ys)
    (drop-drop (past - at) at xs
    ∙ ap (λ (k : ℕ). drop k xs) (let e : at + (past - at) ≡ past = omega (arith, less) in e))

-- the source of the first stream
pub first_source : (ends : List End) (e : End) → 0 < length ends → e ≡ get_or ends 0 e
    → source_of ends ≡ e.source
first_source [] e low is = absurd (let z : ⊥ = omega (arith, low) in z)
first_source (x ∷ xs) e low is = ap (λ (y : End). y.source) (sym is)

-- those of one source, and one in front of them
pub one_of : (ends : List End) (at k : ℕ) (e : End) → at < length ends → e ≡ get_or ends at e
    → Each (IsFrom e.source) (take k (drop (at + 1) ends))
    → AreOfOne (take (at + 1 + k - at) (drop at ends))
one_of ends at k e low is each =
    subst AreOfOne
    (sym (ap (λ xs. take (at + 1 + k - at) xs) (next_of ends at e low is)
    ∙ ap (λ (n : ℕ). take n (e ∷ drop (at + 1) ends))
    (let z : at + 1 + k - at ≡ suc k = omega arith in z)))
    (let x : AreOfOne (e ∷ take k (drop (at + 1) ends)) = (refl, each) in x)

-- all that stands behind some
pub rest_all : {A : Type 0} (n : ℕ) (xs : List A) → take (length xs - n) (drop n xs) ≡ drop n xs
rest_all n xs =
    let size = length-drop n xs in
    take_all (length xs - n) (drop n xs) (let z : length (drop n xs) ≤ length xs - n =
    omega (arith, size) in z)

-- one more of the source
pub one_more : (source : List ℕ) (ends : List End) (i : ℕ) (e : End) → i < length ends
    → e ≡ get_or ends i e → e.source ≡ source → Each (IsFrom source) (take i ends)
    → Each (IsFrom source) (take (i + 1) ends)
one_more source ends i e low is same each =
    subst (Each (IsFrom source)) (sym (take_more ends i e low ∙ ap (λ x. take i ends ++ x ∷ []) (sym is)))
    (each_append (IsFrom source) (take i ends) (e ∷ []) each (same, tt))

-- ---- the streams that are compared

pub audits_next : (side : Side) (result : Result Bool JobFault) (rests : List Rest)
    (digests : List (List ℕ)) (i : ℕ) (r : Rest) (d : List ℕ) (same one : Bool)
    {old mid new : Option History} → i < length rests → i < length digests
    → r ≡ get_or rests i r → d ≡ get_or digests i d → AuditedStream side r d (Ok one) old mid
    → Audits side result (drop (i + 1) rests) (drop (i + 1) digests) (same && one) mid new
    → Audits side result (drop i rests) (drop i digests) same old new
audits_next side result rests digests i r d same one {old = old} {new = new} low high is are x rest =
    subst (λ (rs : List Rest). Audits side result rs (drop i digests) same old new)
    (sym (next_of rests i r low is))
    (subst (λ (ds : List (List ℕ)). Audits side result (r ∷ drop (i + 1) rests) ds same old new)
    (sym (next_of digests i d high are)) (audited x rest))

pub audits_failed : (side : Side) (f : JobFault) (rests : List Rest) (digests : List (List ℕ)) (i : ℕ)
    (r : Rest) (d : List ℕ) (same : Bool) {old new : Option History} → i < length rests
    → i < length digests → r ≡ get_or rests i r → d ≡ get_or digests i d
    → AuditedStream side r d (Err f) old new
    → Audits side (Err f) (drop i rests) (drop i digests) same old new
audits_failed side f rests digests i r d same {old = old} {new = new} low high is are x =
    subst (λ (rs : List Rest). Audits side (Err f) rs (drop i digests) same old new)
    (sym (next_of rests i r low is))
    (subst (λ (ds : List (List ℕ)). Audits side (Err f) (r ∷ drop (i + 1) rests) ds same old new)
    (sym (next_of digests i d high are)) (ended refl x))

pub audits_end : (side : Side) (rests : List Rest) (digests : List (List ℕ)) (i : ℕ) (same : Bool)
    (now : Option History) → min (length rests) (length digests) ≤ i
    → Audits side (Ok same) (drop i rests) (drop i digests) same now now
audits_end side rests digests i same now past = go (one_past (length rests) (length digests) i past)
  where
    one_past : (p q k : ℕ) → min p q ≤ k → (p ≤ k) ⊎ (q ≤ k)
    one_past p q k h = grind arith

    go : (length rests ≤ i) ⊎ (length digests ≤ i)
        → Audits side (Ok same) (drop i rests) (drop i digests) same now now
    go (inl low) =
        subst (λ (rs : List Rest). Audits side (Ok same) rs (drop i digests) same now now)
        (sym (drop_all i rests low)) (audited_all refl)
    go (inr low) =
        subst (λ (ds : List (List ℕ)). Audits side (Ok same) (drop i rests) ds same now now)
        (sym (drop_all i digests low)) (no_digest refl)

-- what is found of where they part is told of the stream, or a refusal is
pub parts_only : (given : Result Met JobFault) → IfErr given IsOfRead → IfErr (parts_of given) IsOfRead
parts_only (Ok met) only = tt
parts_only (Err (fault.Outside call)) only = only
parts_only (Err (fault.Damaged name at)) only = tt
parts_only (Err (fault.Spent number)) only = only
parts_only (Err fault.NoMemory) only = only

pub parts_cause : (given : Result Met JobFault) (before now : ℕ) → JobCause before now given
    → JobCause before now (parts_of given)
parts_cause (Ok met) before now cause = cause
parts_cause (Err (fault.Outside call)) before now cause = cause
parts_cause (Err (fault.Damaged name at)) before now cause = cause
parts_cause (Err (fault.Spent number)) before now cause = cause
parts_cause (Err fault.NoMemory) before now cause = cause

pub result_only : {T : Type 0} (result : Result T OutsideFault) → IfErr (job_result result) IsOfRead
result_only (Ok value) = tt
result_only (Err f) = of_call f

-- ---- the line of a stream

pub line_next : (lines : List CheckLine) (e : End) (i : ℕ) (l : CheckLine) → i < length lines
    → l ≡ get_or lines i l → is_line_of (end_view e).stream (shown l) ≡ false
    → line_for (map shown (drop i lines)) e ≡ line_for (map shown (drop (i + 1) lines)) e
line_next lines e i l low is other =
    ap (λ (ls : List CheckLine). line_for (map shown ls) e) (next_of lines i l low is)
    ∙ (let x : line_for (map shown (l ∷ drop (i + 1) lines)) e
    ≡ line_for (map shown (drop (i + 1) lines)) e = rw other refl in x)

pub line_found : (lines : List CheckLine) (e : End) (i : ℕ) (l : CheckLine) → i < length lines
    → l ≡ get_or lines i l → is_line_of (end_view e).stream (shown l) ≡ true
    → line_for (map shown (drop i lines)) e ≡ Some (shown l)
line_found lines e i l low is mine =
    ap (λ (ls : List CheckLine). line_for (map shown ls) e) (next_of lines i l low is)
    ∙ (let x : line_for (map shown (l ∷ drop (i + 1) lines)) e ≡ Some (shown l) = rw mine refl in
    x)

pub line_none : (lines : List CheckLine) (e : End) (i : ℕ) → length lines ≤ i
    → line_for (map shown (drop i lines)) e ≡ None
line_none lines e i past =
    ap (λ (ls : List CheckLine). line_for (map shown ls) e) (drop_all i lines past)

-- ---- the streams that are found

pub finds_next : (lines : List Line) (result : Result (Unit {0}) JobFault) (last : List Rest)
    (ends : List End) (i : ℕ) (e : End) (found next : List Rest) {old mid new : Option History}
    → i < length ends → e ≡ get_or ends i e → FindsLine lines e found (Ok tt) next old mid
    → FindsLines lines result last (drop (i + 1) ends) next mid new
    → FindsLines lines result last (drop i ends) found old new
finds_next lines result last ends i e found next {old = old} {new = new} low is one rest =
    subst (λ (es : List End). FindsLines lines result last es found old new)
    (sym (next_of ends i e low is)) (goes_on one rest)

pub finds_stop : (lines : List Line) (f : JobFault) (last : List Rest) (ends : List End) (i : ℕ)
    (e : End) (found : List Rest) {old new : Option History} → i < length ends
    → e ≡ get_or ends i e → FindsLine lines e found (Err f) last old new
    → FindsLines lines (Err f) last (drop i ends) found old new
finds_stop lines f last ends i e found {old = old} {new = new} low is one =
    subst (λ (es : List End). FindsLines lines (Err f) last es found old new)
    (sym (next_of ends i e low is)) (stops one refl)

-- a stream is put behind the others, or there is no room for it
pub line_added : (lines : List Line) (e : End) (found next : List Rest) (begin : ℕ)
    (result : Result (Unit {0}) JobFault) {old new : Option History}
    → FindsOne (line_for lines e) (Ok (Some begin)) old new
    → OnOk result (HasMore found e begin next) → IfErr result (λ f. f ≡ fault.NoMemory)
    → FindsLine lines e found result next old new
line_added lines e found next begin (Ok value) one has only = found_at begin one has
line_added lines e found next begin (Err f) {old = old} {new = new} one has only =
    subst (λ (x : JobFault). FindsLine lines e found (Err x) next old new) (sym only)
    (no_room begin one)

pub added_only : (result : Result (Unit {0}) JobFault) → IfErr result (λ f. f ≡ fault.NoMemory)
    → IfErr result IsOfRead
added_only (Ok value) only = tt
added_only (Err f) only = subst IsOfRead (sym only) tt

pub added_cause : (result : Result (Unit {0}) JobFault) (before now : ℕ)
    → IfErr result (λ f. f ≡ fault.NoMemory) → now ≡ before → JobCause before now result
added_cause (Ok value) before now only same = same
added_cause (Err f) before now only same =
    subst (λ (x : JobFault). JobCause {T = Unit {0}} before now (Err x)) (sym only) same
