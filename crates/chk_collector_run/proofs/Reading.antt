-- Where a message is read no further, and how it is read on.
use Rattle.std.proofs.Common.{◌≡◌, ◌≢◌, inl, inr, ℕ, ◌<◌, List, [], ◌∷◌, ◌++◌, length, Option, Result, Ok, Err, refl, arith}
use Rattle.chk_bytes.specs.Stems.{Stem}
use Rattle.chk_http.specs.declared.fault.HttpFault.{HttpFault}
use Rattle.chk_http.specs.declared.fault.HttpFault.TheVariants.{BadHead, NoLength, TooLarge, NotYet, BadPath, BadMethod, BadLine}
use Rattle.chk_http.specs.declared.request.RequestRef.{RequestRef}
use Rattle.chk_http.specs.declared.request.RequestRef.TheVariants.{Post, Acks}
use Rattle.chk_http.specs.Heads.{IsNoRequestHead, IsOpenRequestHead}
use Rattle.chk_http.specs.Queries.{IsQuery}
use Rattle.chk_http.specs.Requests.{IfPoll}
use Rattle.chk_collector.specs.Outcomes.{IsRefusal, RefusedBy}
use Rattle.chk_collector.proofs.Refused.{IsRead as WasRead, refused_by}
use Rattle.httparse.specs.Grammar.{EndsInTarget}
use Rattle.chk_bytes.specs.declared.NoMemory.{NoMemory}
use Rattle.chk_site.specs.declared.acts.Call.TheVariants.{More}
use Rattle.chk_site.specs.declared.acts.Who.{Who}
use Rattle.chk_site.specs.History.{History}
use Rattle.chk_site.specs.Site.{Adds, asked, answered, bytes_given, Calls}
use Rattle.chk_collector.specs.Replies.{MayHaveRisen}
use Rattle.chk_collector_run.specs.Messages.{IsRead, IsOpen, IsShut, IsUndecided, IsReadOn, came}
use Rattle.chk_collector_run.proofs.Counts.{risen_then}

-- what was read is a request, or a refusal for another reason than that the bytes aren't whole
pub read_whole : (bytes : List ℕ) (result : Result RequestRef HttpFault) → WasRead bytes result
    → IfPoll result (λ query. (stems : List Stem) × IsQuery stems query) → result ≢ Err NotYet
    → IsRead bytes
read_whole bytes (Ok (Post body)) read polls other = inl (body.now, (read.post body.now).0 refl)
read_whole bytes (Ok (Acks query)) read polls other = inr (inl (
  polls.0,
  (read.poll polls.0).0
      polls.1,
))
read_whole bytes (Err fault) read polls other = inr (inr (
  fault,
  (λ e. other (rw e refl)),
  refused_by bytes fault read,
))

-- ---- a message is open or shut, and not both

-- no head continues the bytes, though they may become one: they end inside the target
never_open : (bytes : List ℕ) → IsNoRequestHead bytes → IsOpenRequestHead bytes → EndsInTarget bytes
unfolding IsNoRequestHead IsOpenRequestHead
never_open bytes never (none, inl (more, h, reads)) = absurd (never more h _ reads)
never_open bytes never (none, inr ends) = ends

undecided : (bytes : List ℕ) (fault : HttpFault) → fault ≢ NotYet → RefusedBy bytes NotYet
    → RefusedBy bytes fault → IsRefusal bytes fault
    → IsUndecided bytes
undecided bytes BadHead other yet shut (inl never) = by yet.reason
  where
    by : IsRefusal bytes NotYet → IsUndecided bytes
    by (inl may) = inr (never, never_open bytes never may)
    by (inr cut) = absurd (other (shut.cut_body cut))
undecided bytes BadHead other yet shut (inr length) = absurd (let e = yet.bad_length length in let
    z : ⊥ = cc in z)
undecided bytes NoLength other yet shut reason = absurd (let e = yet.no_length reason in let z : ⊥
    = cc in z)
undecided bytes TooLarge other yet shut (inl (inl endless)) = absurd (let e = yet.endless endless
    in let z : ⊥ = cc in z)
undecided bytes TooLarge other yet shut (inl (inr many)) = inl many
undecided bytes TooLarge other yet shut (inr long) = absurd (let e = yet.long_body long in let z :
    ⊥ = cc in z)
undecided bytes NotYet other yet shut reason = absurd (other refl)
undecided bytes BadPath other yet shut reason = absurd (let e = yet.bad_path reason in let z : ⊥ =
    cc in z)
undecided bytes BadMethod other yet shut reason = absurd (let e = yet.bad_method reason in let z :
    ⊥ = cc in z)
undecided bytes BadLine other yet shut reason = absurd (let e = yet.bad_line reason in let z : ⊥ =
    cc in z)

pub reads_on_exactly : (bytes : List ℕ) → IsOpen bytes → IsShut bytes → IsUndecided bytes
reads_on_exactly bytes yet (inl long) = absurd (let short = yet.short in let z : ⊥ = omega (
  arith,
  long,
  short,
) in z)
reads_on_exactly bytes yet (inr (inl post)) = absurd (yet.not_yet.no_request (inl post))
reads_on_exactly bytes yet (inr (inr (inl poll))) = absurd (yet.not_yet.no_request (inr poll))
reads_on_exactly bytes yet (inr (inr (inr (fault, other, refused)))) =
    undecided bytes fault other yet.not_yet refused refused.reason

-- ---- piece by piece

-- so much was got: what comes of the rest of the message comes of all of it
pub record ReadSoFar (who : Who) (t : ℕ) (begun bytes : List ℕ) (old now : Option History)
    (before count : ℕ) : Type 0 where
  pub later : (got : Result (Option (List ℕ)) NoMemory) (end : Option History)
      → IsReadOn who t bytes got now end → IsReadOn who t begun got old end
  pub risen : MayHaveRisen before count

pub read_begins : (who : Who) (t : ℕ) (bytes : List ℕ) (now : Option History) (count : ℕ)
    → ReadSoFar who t bytes bytes now now count count
read_begins who t bytes now count = record { later = λ got end more. more; risen = inl refl }

module _ {who : Who} {t : ℕ} {begun bytes : List ℕ} {old now : Option History} {before count : ℕ}
    (far : ReadSoFar who t begun bytes old now before count) where
  -- a piece came
  pub read_more : (piece : List ℕ) (new : Option History) (later : ℕ) → IsOpen bytes
      → 0 < length piece
      → Adds now new (Calls (asked who More [] t 0) (answered bytes_given (Ok piece)))
      → MayHaveRisen count later
      → ReadSoFar who t begun (bytes ++ piece) old new before later
  read_more piece new later unread some call risen = record {
    later = λ got end more. far.later got end (came piece unread some call more);
    risen = risen_then before count later far.risen risen;
  }

pub no_bytes : (bytes : List ℕ) → length bytes ≡ 0 → bytes ≡ []
no_bytes [] none = refl
no_bytes (b ∷ bytes) none = absurd (let z : ⊥ = omega (arith, none) in z)
