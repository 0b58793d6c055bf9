-- What reads show, put together.
use Rattle.std.proofs.Common.{◌≡◌, inl, inr, ◌⊎◌, true≢false, ℕ, ◌+◌, ◌<◌, ◌≤◌, ◌^◌, true, List, [], ◌∷◌, ◌++◌, length, drop, Option, Some, None, Ok, Err, refl, sym, ◌∙◌, ap, subst, append_assoc, append-nil, arith, length-append}
use Rattle.std.proofs.Math.Seq.{drop-append_seam}
use Rattle.std.proofs.lemmas.Bool.{cases_lt}
use Rattle.chk_bytes.specs.Words.{BeginsWith}
use Rattle.chk_site.specs.declared.acts.Who.{Who}
use Rattle.chk_site.specs.declared.acts.OutsideFault.{OutsideFault}
use Rattle.chk_site.specs.declared.acts.CallFault.TheVariants.{Missing, Short}
use Rattle.chk_site.specs.declared.acts.ActAnswer.{ActAnswer}
use Rattle.chk_site.specs.declared.acts.ActAnswer.TheVariants.{Refused}
use Rattle.chk_site.specs.declared.acts.Call.TheVariants.{Read}
use Rattle.chk_site.specs.Acts.{deed}
use Rattle.chk_site.specs.History.{History, Step, Every, IsTheirs}
use Rattle.chk_site.specs.Site.{Adds, asked, bytes_given, Acted, Calls}
use Rattle.chk_site.proofs.Runs.{adds_then, adds_as, adds_none, every_join, every_early, every_late, ran}
use Rattle.chk_record_index.specs.Shown.{piece_in, HasThere, HasGiven, Bears, Agree, Within, Gave, HasMissed, ShowsPiece, ShowsBytes, ShowsFile}

-- ---- stretches

-- what holds of all added steps holds of a stretch of them
pub within_all : (P : History → History → Type 0) (added history : History) → P added history → Within P added history
within_all P added history p = record { before = []; part = added; behind = []; is = sym (append-nil added); holds = p }

-- the stretch is one of the later steps
pub within_late : (P : History → History → Type 0) (b a history : History) → Within P b (a ++ history) → Within P (b ++ a) history
within_late P b a history w = record {
  before = w.before ++ a;
  part = w.part;
  behind = w.behind;
  is = ap (λ x. x ++ a) w.is
      ∙ (append_assoc w.behind (w.part ++ w.before) a ∙ ap (λ x. w.behind ++ x) (append_assoc w.part w.before a));
  holds = subst (λ h. P w.part h) (sym (append_assoc w.before a history)) w.holds;
}

-- it is one of the earlier steps
pub within_early : (P : History → History → Type 0) (b a history : History) → Within P a history → Within P (b ++ a) history
within_early P b a history w = record {
  before = w.before;
  part = w.part;
  behind = b ++ w.behind;
  is = ap (λ x. b ++ x) w.is ∙ sym (append_assoc b w.behind (w.part ++ w.before));
  holds = w.holds;
}

-- ---- the steps in turn

abbrev bearing : List ℕ → List ℕ → History → Step → Type 0
bearing name bytes before step = step.own ≡ true → Bears name bytes (deed step.act) step.act.answer

pub agree_join : (name bytes : List ℕ) (b a history : History) → Agree name bytes a history → Agree name bytes b (a ++ history)
    → Agree name bytes (b ++ a) history
agree_join name bytes b a history first second = every_join (bearing name bytes) b a history first second

pub agree_early : (name bytes : List ℕ) (b a history : History) → Agree name bytes (b ++ a) history → Agree name bytes a history
agree_early name bytes b a history all = every_early (bearing name bytes) b a history all

pub agree_late : (name bytes : List ℕ) (b a history : History) → Agree name bytes (b ++ a) history → Agree name bytes b (a ++ history)
agree_late name bytes b a history all = every_late (bearing name bytes) b a history all

-- ---- one read

theirs_agree : (name bytes : List ℕ) (added history : History) → Every IsTheirs added history → Agree name bytes added history
theirs_agree name bytes [] history theirs = tt
theirs_agree name bytes (step ∷ added) history theirs =
    (theirs_agree name bytes added history theirs.0, λ own. absurd (true≢false (sym own ∙ theirs.1.0)))

missed_late : (name : List ℕ) (b a : History) → HasMissed name b → HasMissed name (b ++ a)
missed_late name [] a has = absurd has
missed_late name (step ∷ b) a (inl here) = inl here
missed_late name (step ∷ b) a (inr there) = inr (missed_late name b a there)

pub missed_then : (name : List ℕ) (b a : History) → HasMissed name b → HasMissed name (b ++ a)
missed_then = missed_late

-- a read that was answered by a piece
module _ (who : Who) (name : List ℕ) (at max : ℕ) (answer : ActAnswer) (piece : List ℕ) (is : piece_in answer ≡ Some piece) where
  acted_gave : (added history : History) → Acted (asked who Read (name ∷ []) at max) answer added history → Gave name at max piece added history
  acted_gave added history acted =
      subst (λ a. Gave name at max piece a history) (sym acted.added_is) (record {
        each = λ bytes all. subst (HasGiven bytes at max) is (all.1 refl refl);
        any = λ bytes has. (
          theirs_agree name bytes acted.others history acted.theirs,
          λ own same. subst (HasGiven bytes at max) (sym is) has,
        );
      })

pub read_gave : (who : Who) (name : List ℕ) (at max : ℕ) (bytes : List ℕ) {old new : Option History}
    → Adds old new (Calls (asked who Read (name ∷ []) at max) (Ok (bytes_given bytes)))
    → Adds old new (ShowsPiece name at max (Ok (Some bytes)))
read_gave who name at max bytes told =
    adds_as (ShowsPiece name at max (Ok (Some bytes))) told
    (λ added history calls. acted_gave who name at max (bytes_given bytes) bytes refl added history
    (ran (Ok (bytes_given bytes)) (λ e. cc) calls))

pub read_short : (who : Who) (name : List ℕ) (at max size : ℕ) {old new : Option History}
    → Adds old new (Calls (asked who Read (name ∷ []) at max) (Err (Short size)))
    → Adds old new (ShowsPiece name at max (Ok (Some [])))
read_short who name at max size told =
    adds_as (ShowsPiece name at max (Ok (Some []))) told
    (λ added history calls. acted_gave who name at max (Refused (Short size)) [] refl added history
    (ran (Err (Short size)) (λ e. cc) calls))

acted_missed : (who : Who) (name : List ℕ) (at max : ℕ) (added history : History)
    → Acted (asked who Read (name ∷ []) at max) (Refused Missing) added history → HasMissed name added
acted_missed who name at max added history acted =
    subst (HasMissed name) (sym acted.added_is) (inl (record { own = refl; at = at; max = max; asks = refl; missed = refl }))

pub read_missing : (who : Who) (name : List ℕ) (at max : ℕ) {old new : Option History}
    → Adds old new (Calls (asked who Read (name ∷ []) at max) (Err Missing))
    → Adds old new (ShowsPiece name at max (Ok None))
read_missing who name at max told =
    adds_as (ShowsPiece name at max (Ok None)) told
    (λ added history calls.
    let acted = ran (Err Missing) (λ e. cc) calls in (
      acted_gave who name at max (Refused Missing) [] refl added history acted,
      acted_missed who name at max added history acted,
    ))

pub read_failed : {P : History → History → Type 0} (name : List ℕ) (at max : ℕ) (fault : OutsideFault) {old new : Option History}
    → Adds old new P → Adds old new (ShowsPiece name at max (Err fault))
read_failed name at max fault told = adds_as (ShowsPiece name at max (Err fault)) told (λ added history p. tt)

-- the same, where a file that isn't there counts as empty
pub gave_bytes : (name : List ℕ) (at max : ℕ) (bytes : List ℕ) {old new : Option History} → Adds old new (ShowsPiece name at max (Ok (Some bytes)))
    → Adds old new (ShowsBytes name at max (Ok bytes))
gave_bytes name at max bytes told = adds_as (ShowsBytes name at max (Ok bytes)) told (λ added history x. x)

pub gave_none : (name : List ℕ) (at max : ℕ) {old new : Option History} → Adds old new (ShowsPiece name at max (Ok None))
    → Adds old new (ShowsBytes name at max (Ok []))
gave_none name at max told = adds_as (ShowsBytes name at max (Ok [])) told (λ added history x. x.0)

pub gave_nothing : {P : History → History → Type 0} (name : List ℕ) (at max : ℕ) (fault : OutsideFault) {old new : Option History} → Adds old new P
    → Adds old new (ShowsBytes name at max (Err fault))
gave_nothing name at max fault told = adds_as (ShowsBytes name at max (Err fault)) told (λ added history p. tt)

-- ---- a file that is read from its front on

-- the bytes so far, whatever stands behind them, have what the reads gave, and all that have it begin with them
pub record ShowsFront (name front : List ℕ) (added history : History) : Type 0 where
  pub agree : (more : List ℕ) → Agree name (front ++ more) added history
  pub each : (bytes : List ℕ) → Agree name bytes added history → BeginsWith bytes front

pub front_begins : (name : List ℕ) (now : Option History) → Adds now now (ShowsFront name [])
front_begins name now = adds_none now (ShowsFront name []) (λ history. record { agree = λ more. tt; each = λ bytes all. (bytes, refl) })

-- a piece stands behind the bytes
pub there_behind : (front piece more : List ℕ) (max : ℕ) → 0 < length piece → HasThere (front ++ (piece ++ more)) (length front) max piece
there_behind front piece more max some = record {
  stands = (more, drop-append_seam front (piece ++ more));
  ends = λ none. absurd (let z : ⊥ = omega arith in z);
}

-- where all begin with some bytes and have a piece behind them, they begin with both
pub begins_more : (bytes front piece : List ℕ) → BeginsWith bytes front → BeginsWith (drop (length front) bytes) piece → BeginsWith bytes (front ++ piece)
begins_more bytes front piece (rest, is) (more, left) =
    let same : rest ≡ piece ++ more = sym (ap (drop (length front)) is ∙ drop-append_seam front rest) ∙ left in
    (more, is ∙ (ap (λ r. front ++ r) same ∙ sym (append_assoc front piece more)))

pub front_more : (name front piece : List ℕ) (at max : ℕ) {old mid new : Option History} → at ≡ length front → 0 < length piece
    → Adds old mid (ShowsFront name front) → Adds mid new (ShowsPiece name at max (Ok (Some piece)))
    → Adds old new (ShowsFront name (front ++ piece))
front_more name front piece at max here some so_far given =
    adds_then (ShowsFront name (front ++ piece)) so_far given
    (λ a b history x y. record {
      agree = λ more.
          agree_join name ((front ++ piece) ++ more) b a history
          (subst (λ w. Agree name w a history) (sym (append_assoc front piece more)) (x.agree (piece ++ more)))
          (y.any ((front ++ piece) ++ more)
          (subst (λ w. HasThere w at max piece) (sym (append_assoc front piece more))
          (subst (λ n. HasThere (front ++ (piece ++ more)) n max piece) (sym here) (there_behind front piece more max some))));
      each = λ bytes all.
          begins_more bytes front piece (x.each bytes (agree_early name bytes b a history all))
          (subst (λ n. BeginsWith (drop n bytes) piece) here (y.each bytes (agree_late name bytes b a history all)).stands);
    })

-- an empty piece stands at the end
pub none_there : (front : List ℕ) (at max : ℕ) (piece : List ℕ) → length piece ≡ 0 → length front ≤ at → HasThere front at max piece
none_there front at max [] empty here = record { stands = (drop at front, refl); ends = λ none some. omega arith }
none_there front at max (x ∷ piece) empty here = absurd (let z : ⊥ = omega arith in z)

whole_front : (bytes front : List ℕ) → BeginsWith bytes front → length bytes ≤ length front → bytes ≡ front
whole_front bytes front (rest, is) few =
    let size : length bytes ≡ length front + length rest = ap length is ∙ length-append front rest in
    none rest is (omega arith)
  where
    none : (rest : List ℕ) → bytes ≡ front ++ rest → length rest ≡ 0 → bytes ≡ front
    none [] is empty = is ∙ append-nil front
    none (x ∷ rest) is empty = absurd (let z : ⊥ = omega arith in z)

pub front_ends : (name front piece : List ℕ) (at max : ℕ) {old mid new : Option History} → at ≡ length front → length front < 2 ^ 63
    → length piece ≡ 0 → (length front + 1 < 2 ^ 63 → 0 < max)
    → Adds old mid (ShowsFront name front) → Adds mid new (ShowsPiece name at max (Ok (Some piece)))
    → Adds old new (ShowsFile name (Ok (Some front)))
front_ends name front piece at max here small empty asks so_far given =
    adds_then (ShowsFile name (Ok (Some front))) so_far given
    (λ a b history x y. record {
      some = front;
      small = small;
      agree = agree_join name front b a history (subst (λ w. Agree name w a history) (append-nil front) (x.agree []))
          (y.any front (none_there front at max piece empty (omega (arith, here))));
      each = λ bytes low all.
          whole_front bytes front (x.each bytes (agree_early name bytes b a history all))
          (ended bytes low (y.each bytes (agree_late name bytes b a history all)));
    })
  where
    ended : (bytes : List ℕ) → length bytes < 2 ^ 63 → HasThere bytes at max piece → length bytes ≤ length front
    ended bytes low there = by (cases_lt (length front + 1) (2 ^ 63))
      where
        by : (length front + 1 < 2 ^ 63) ⊎ (2 ^ 63 ≤ length front + 1) → length bytes ≤ length front
        by (inl less) = omega (arith, there.ends empty (asks less), here)
        by (inr full) = omega arith

pub front_missed : (name : List ℕ) (at max : ℕ) {P : History → History → Type 0} {old mid new : Option History}
    → Adds old mid P → Adds mid new (ShowsPiece name at max (Ok None)) → Adds old new (ShowsFile name (Ok None))
front_missed name at max so_far given =
    adds_then (ShowsFile name (Ok None)) so_far given (λ a b history x y. missed_late name b a y.1)

pub front_failed : {P : History → History → Type 0} (name : List ℕ) (fault : OutsideFault) {old new : Option History} → Adds old new P
    → Adds old new (ShowsFile name (Err fault))
front_failed name fault told = adds_as (ShowsFile name (Err fault)) told (λ added history p. tt)
