-- What passes of a collector rises strictly.
use Rattle.std.proofs.Common.{◌≡◌, inl, inr, ℕ, ◌<◌, Bool, true, false, ◌||◌, ◌==◌, cond, List, [], ◌∷◌, ◌++◌, length, map, Some, ap, sym, subst, ◌∙◌, refl, arith, true≢false, if◌then◌else◌}
use Rattle.std.specs.Prelude.{find}
use Rattle.std.proofs.lemmas.Option.{same_Some, none-some}
use Rattle.chk_chunk.specs.Keys.{Chunk}
use Rattle.chk_http_grammar.specs.Messages.{Ack, acks_text}
use Rattle.chk_http_grammar.proofs.Accepted.{never_both}
use Rattle.chk_http_grammar.proofs.Apart.{acks_text-same}
use Rattle.chk_site.specs.declared.acts.Who.{Who}
use Rattle.chk_site.specs.declared.acts.ActAnswer.{ActAnswer}
use Rattle.chk_site.specs.declared.acts.ActAnswer.TheVariants.{Done}
use Rattle.chk_site.specs.Acts.{Deed, Appends, Syncs, Takes, TakesMore, Answers, deed, same_who}
use Rattle.chk_site.specs.History.{Step, History, files_after, is_by}
use Rattle.chk_tee.specs.Messages.{Teed}
use Rattle.chk_tee.specs.Filters.{passes, passing}
use Rattle.chk_tee.specs.declared.filters.Filter.{Filter}
use Rattle.chk_tee_sender.specs.Offers.{teeds_of}
use Rattle.chk_tee_sender.specs.declared.sieve.Mark.{Mark}
use Rattle.chk_world.specs.Names.{Name, SinkFile, read}
use Rattle.chk_world.specs.Collectors.{Handling, TellAll, GoodAnswer, AnswersWell, CollectorRule, appended_at, no_more_newest, with_bytes, with_answer, with_sync, with_appends, handled_after, size_in, view}
use Rattle.chk_world.specs.Rules.{Legal, RoleMay}
use Rattle.chk_world.proofs.Law.{who_same}
use Rattle.chk_world.proofs.ToldCalls.{who_self}
use Rattle.chk_world.proofs.CheckpointsMove.{found}
use Rattle.chk_world.proofs.TakenChunks.{AllOf, all_one, handled_is}
use Rattle.chk_world.proofs.AppendsStand.{Stand, appends_stand}
use Rattle.chk_world.proofs.RepliesTell.{told_are}
use Rattle.chk_tee_laws.specs.Passed.{collector_named, AnswersPost, HasPassed, none, more, same, IsAbove, place, Each, RiseStrictly, AreInOrder}
use Rattle.chk_tee_laws.proofs.Order.{each_same, each_any, each_join, each_filter, rise_join, rise_filter, EachLine, lines_each, lines_rise}
use Rattle.chk_tee_laws.proofs.Reached.{IsReached, reached_stays, known as known_at, grows as grows_at, end_is as end_at, own as own_at, above as above_at}
use Rattle.chk_tee_laws.proofs.Appending.{AreNew, end_of, new_stay, new_more, told_each, told_rise}

-- the message isn't the one that was taken last
abbrev pub IsOld : Handling → Type 0
IsOld h = h.newest ≡ false

-- the message that was taken last, where it isn't answered: what was appended since lies above
-- what was passed; no other one is
-- the last
abbrev pub FirstIsNew : List ℕ → History → List Teed → List Handling → Type 0
FirstIsNew name history items [] = Unit {0}
FirstIsNew name history items (h ∷ hs) =
    (h.answered ≡ false → AreNew name history items h.appends) × AllOf IsOld hs

-- what holds of the passed chunks
pub record Inv (name : List ℕ) (history : History) (items : List Teed) (hs : List Handling) : Type
    0 where
  pub rise : RiseStrictly items
  pub reached : Each (λ t. IsReached name history (place t)) items
  pub first : FirstIsNew name history items hs

-- ---- the messages after a call that answers nothing

-- each message is changed so that what is known stays
first_mapped : (name : List ℕ) (before after : History) (items : List Teed)
    (g : Handling → Handling)
    → ((h : Handling) → (g h).answered ≡ false → h.answered ≡ false)
    → ((h : Handling) → (g h).newest ≡ h.newest)
    → ((h : Handling) → AreNew name before items h.appends → AreNew name after items (g h).appends)
    → (hs : List Handling) → FirstIsNew name before items hs
    → FirstIsNew name after items (map g hs)
first_mapped name before after items g unopened newest new [] first = tt
first_mapped name before after items g unopened newest new (h ∷ hs) first =
    (λ e. new h (first.0 (unopened h e)), olds hs first.1)
  where
    olds : (hs : List Handling) → AllOf IsOld hs → AllOf IsOld (map g hs)
    olds [] all = tt
    olds (h ∷ hs) all = (newest h ∙ all.0, olds hs all.1)

all_old : (hs : List Handling) → AllOf IsOld (map no_more_newest hs)
all_old [] = tt
all_old (h ∷ hs) = (refl, all_old hs)

answered_before : (a b : Bool) → (a || b) ≡ false → b ≡ false
answered_before true b e = absurd (true≢false e)
answered_before false b e = e

module _ (stamped : List (List ℕ)) (history : History) (step : Step)
    (legal : Legal stamped (step ∷ history)) (name : List ℕ)
    (items : List Teed) (reached : Each (λ t. IsReached name history (place t)) items) where
  abbrev Now : List Handling → Type 0
  Now hs = FirstIsNew name history items hs

  abbrev Then : List Handling → Type 0
  Then hs = FirstIsNew name (step ∷ history) items hs

  mapped : (g : Handling → Handling)
      → ((h : Handling) → (g h).answered ≡ false → h.answered ≡ false)
      → ((h : Handling) → (g h).newest ≡ h.newest)
      → ((h : Handling) → (g h).appends ≡ h.appends) → (hs : List Handling) → Now hs
      → Then (map g hs)
  mapped g unopened newest appends hs first =
      first_mapped name history (step ∷ history) items g unopened newest
      (λ h new. subst (AreNew name (step ∷ history) items) (sym (appends h))
      (new_stay name history step items h.appends new)) hs first

  kept : (hs : List Handling) → Now hs → Then hs
  kept [] first = tt
  kept (h ∷ hs) first = (λ e. new_stay name history step items h.appends (first.0 e), first.1)

  -- an append of the collector's
  appended : (mine : step.act.who ≡ collector_named name) (w piece : List ℕ)
      (words : List (List ℕ)) (number of : ℕ)
      → deed step.act ≡ Appends w piece → step.act.answer ≡ Done words number of
      → (hs : List Handling) → Now hs
      → Then (map (with_appends (appended_at (read w) piece (size_in (step.files w)))) hs)
  appended mine w piece words number of c a hs first =
      first_mapped name history (step ∷ history) items
      (with_appends (appended_at (read w) piece (size_in (step.files w))))
      (λ h e. e) (λ h. refl) (λ h new. more_at (read w) refl h new) hs first
    where
      more_at : (n : Name) → read w ≡ n → (h : Handling) → AreNew name history items h.appends
          → AreNew name (step ∷ history) items
          (h.appends ++ appended_at n piece (size_in (step.files w)))
      more_at (SinkFile x) e h new =
          new_more name history step items h.appends
          (record { stem = x; piece = piece; end = size_in (step.files w) } ∷ []) new reached
          (λ some. tt, tt) (at_end, tt) (λ m r. (over m r, tt))
        where
          x_is : 0 < length piece → x.collector ≡ name
          x_is some = ap (λ (who : Who). who.name)
              (sym (own_at stamped history step legal w piece words number of c a x e some)
              ∙ mine)

          at_end : 0 < length piece
              → IsReached name (step ∷ history)
              (end_of (record { stem = x; piece = piece; end = size_in (step.files w) }))
          at_end some =
              let end = end_at stamped history step legal w piece words number of c a x e some in
              let more = grows_at stamped history step legal w piece words number of c a x e some in
              record {
                of = x_is some;
                known = known_at stamped history step legal w piece words number of c a x e some;
                some = omega (arith, end, more);
                within = omega (arith, end);
              }

          over : (m : Mark) → IsReached name history m → 0 < length piece
              → IsAbove m (end_of (record
              { stem = x; piece = piece; end = size_in (step.files w) }))
          over m r some =
              subst (λ n. IsAbove m (record { stem = x; offset = n }))
              (sym (end_at stamped history step legal w piece words number of c a x e some))
              (above_at stamped history step legal w piece words number of c a x e some m
              (subst (λ c. IsReached c history m) (sym (x_is some)) r))
      more_at n e h new = new_more name history step items h.appends [] new reached tt tt
          (λ m r. tt)

  own : step.act.who ≡ collector_named name → (call : Deed) (answer : ActAnswer) → deed step.act
      ≡ call → step.act.answer ≡ answer
      → (hs : List Handling) → Now hs → Then (handled_after call answer step.files hs)
  own mine (Takes door wait) (Done (bytes ∷ words) number of) c a hs first = (
    λ e. record { rise = tt; reached = tt; above = each_any (λ t. tt) items },
    all_old hs,
  )
  own mine (TakesMore t) (Done (bytes ∷ words) number of) c a hs first =
      mapped (with_bytes t bytes) (λ h e. e) (λ h. refl) (λ h. refl) hs first
  own mine (Answers t bytes) answer c a hs first =
      mapped (with_answer t) (λ h e. answered_before (h.taking == t) h.answered e) (λ h. refl)
      (λ h. refl) hs first
  own mine (Syncs w) answer c a hs first =
      mapped with_sync (λ h e. e) (λ h. refl) (λ h. refl) hs first
  own mine (Appends w piece) (Done words number of) c a hs first =
      appended mine w piece words number of c a hs first
  own mine call answer c a hs first = kept hs first

  -- any step
  pub goes_on : (hs : List Handling) → Now hs
      → Then (if is_by (collector_named name) step then handled_after (deed step.act)
      step.act.answer step.files hs else hs)
  goes_on hs first = go (is_by (collector_named name) step) refl
    where
      go : (b : Bool) → is_by (collector_named name) step ≡ b
          → Then (if b then handled_after (deed step.act) step.act.answer step.files hs else hs)
      go true e = own (sym (who_same (collector_named name) step.act.who e)) (deed step.act)
          step.act.answer refl refl hs first
      go false e = kept hs first

-- ---- an answer to a post

-- the message that is answered is the one that was taken last; behind the answer it counts no more
front_only : (name : List ℕ) (before after : History) (old items : List Teed) (t : ℕ)
    (hs : List Handling) (h : Handling)
    → FirstIsNew name before old hs → find (λ h. h.taking == t) hs ≡ Some h → h.newest ≡ true
    → (h.answered ≡ false → AreNew name before old h.appends)
    × FirstIsNew name after items (map (with_answer t) hs)
front_only name before after old items t [] h first is newest = absurd (none-some h is)
front_only name before after old items t (g ∷ hs) h first is newest = go (g.taking == t) refl is
  where
    olds : (hs : List Handling) → AllOf IsOld hs → AllOf IsOld (map (with_answer t) hs)
    olds [] all = tt
    olds (h ∷ hs) all = (all.0, olds hs all.1)

    go : (b : Bool) → (g.taking == t) ≡ b → cond b (Some g) (find (λ h. h.taking == t) hs) ≡ Some h
        → (h.answered ≡ false → AreNew name before old h.appends)
        × FirstIsNew name after items (map (with_answer t) (g ∷ hs))
    go true e is =
        let same : g ≡ h = same_Some g h is in (
          subst (λ (k : Handling). k.answered ≡ false → AreNew name before old k.appends) same
              first.0,
          (λ yet. absurd (true≢false (ap (λ b. b || g.answered) (sym e) ∙ yet)), olds hs first.1),
        )
    go false e is =
        let f = found (λ h. h.taking == t) hs h is in
        absurd (true≢false (sym newest ∙ all_one IsOld hs h first.1 f.one))

module _ (stamped : List (List ℕ)) (history : History) (step : Step)
    (legal : Legal stamped (step ∷ history)) (name : List ℕ) (f : Filter)
    (items : List Teed) (inv : Inv name history items
    (view (collector_named name) history).handled) (chunks : List Chunk) (acks : List Ack)
    (a : AnswersPost (collector_named name) history step chunks acks) where
  abbrev pub me : Who
  me = collector_named name

  abbrev pub hs : List Handling
  hs = (view me history).handled

  rule : AnswersWell me history (Some a.message) a.reply
  rule =
      subst (λ o. AnswersWell me history o a.reply) a.taken
      (subst (CollectorRule me history (view me history)) a.call
      (subst (λ w. CollectorRule w history (view w history) (deed step.act)) a.by
      (subst (λ role. RoleMay stamped role history step) (ap (λ (w : Who). w.role) a.by)
      legal.1.rule))).1

  -- the lines are those of its appends
  record Told : Type 0 where
    newest : a.message.newest ≡ true
    unanswered : a.message.answered ≡ false
    written : List Chunk
    tells : TellAll written acks a.message.appends

  told : Told
  told = go answer.2
    where
      answer : (others : List Ack) × (acks_text acks ≡ acks_text others)
          × GoodAnswer me history (Some a.message) others
      answer = rule (acks_text acks) a.good.1

      stand : Stand history a.message
      stand = all_one (Stand history) hs a.message (appends_stand stamped history legal.0 me)
          (found (λ h. h.taking == a.taking) hs a.message a.taken).one

      go : GoodAnswer me history (Some a.message) answer.0 → Told
      go (inl p) =
          let are = told_are history p.chunks answer.0 a.message.appends p.lines stand in
          let same : answer.0 ≡ acks = acks_text-same answer.0 acks are a.good.0 (sym answer.1) in
          record {
            newest = p.newest;
            unanswered = p.open_yet;
            written = p.chunks;
            tells = subst (λ l. TellAll p.chunks l a.message.appends) same p.lines;
          }
      go (inr p) = absurd (never_both a.post.0 p.stems a.message.bytes a.post.1 p.poll)

  abbrev pub more_items : List Teed
  more_items = passing f (teeds_of chunks acks)

  passed_more : Inv name (step ∷ history) (items ++ more_items) (map (with_answer a.taking) hs)
  passed_more =
      let split = front_only name history (step ∷ history) items (items ++ more_items) a.taking hs
      a.message inv.first a.taken told.newest in
      let new : AreNew name history items a.message.appends = split.0 told.unanswered in
      let p : Teed → Bool = λ t. passes f t.chunk.key.stream in
      let reach : EachLine (IsReached name history) acks =
      told_each (IsReached name history) told.written acks a.message.appends told.tells
      new.reached in
      record {
        rise = rise_join items more_items inv.rise
            (rise_filter p (teeds_of chunks acks)
            (lines_rise chunks acks (told_rise told.written acks a.message.appends told.tells
            new.rise)))
            (each_same (λ t ends. each_filter (λ u. IsAbove (place t) (place u)) p
            (teeds_of chunks acks)
            (lines_each (IsAbove (place t)) chunks acks
            (told_each (IsAbove (place t)) told.written acks a.message.appends told.tells
            ends)))
            items new.above);
        reached = each_same (λ t r. reached_stays name history step (place t) r)
            (items ++ more_items)
            (each_join (λ t. IsReached name history (place t)) items more_items inv.reached
            (each_filter (λ t. IsReached name history (place t)) p (teeds_of chunks acks)
            (lines_each (IsReached name history) chunks acks reach)));
        first = split.1;
      }

  pub answered : Inv name (step ∷ history) (items ++ more_items) (view me (step ∷ history)).handled
  answered =
      subst (Inv name (step ∷ history) (items ++ more_items))
      (sym (handled_is me (is_by me step) (deed step.act) step.act.answer (files_after history)
      step.files (view me history) ∙ (
      ap (λ b. if b then handled_after (deed step.act) step.act.answer step.files hs else hs) by_me
      ∙ ap (λ call. handled_after call step.act.answer step.files hs) a.call
      ))) passed_more
    where
      by_me : is_by me step ≡ true
      by_me = ap (same_who me) a.by ∙ who_self me

-- ---- all histories

pub passed_inv : (stamped : List (List ℕ)) (name : List ℕ) (f : Filter) (history : History)
    → Legal stamped history → (items : List Teed)
    → HasPassed (collector_named name) f history items
    → Inv name history items (view (collector_named name) history).handled
passed_inv stamped name f _ legal _ none = record { rise = tt; reached = tt; first = tt }
passed_inv stamped name f _ legal _
    (more {history = history} {items = items} step chunks acks a before) =
    answered stamped history step legal name f items
    (passed_inv stamped name f history legal.0 items before) chunks acks a
passed_inv stamped name f _ legal _ (same {history = history} {items = items} step never before) =
    let me = collector_named name in
    let inv = passed_inv stamped name f history legal.0 items before in
    record {
      rise = inv.rise;
      reached = each_same (λ t r. reached_stays name history step (place t) r) items inv.reached;
      first =
          subst (FirstIsNew name (step ∷ history) items)
          (sym (handled_is me (is_by me step) (deed step.act) step.act.answer
          (files_after history) step.files (view me history)))
          (goes_on stamped history step legal name items inv.reached (view me history).handled
          inv.first);
    }

pub passed_rises : (stamped : List (List ℕ)) (history : History) → Legal stamped history
    → (name : List ℕ) (f : Filter) (items : List Teed)
    → HasPassed (collector_named name) f history items → AreInOrder name items
passed_rises stamped history legal name f items passed =
    let inv = passed_inv stamped name f history legal items passed in
    record { rise = inv.rise; of = each_same (λ t r. r.of) items inv.reached }
