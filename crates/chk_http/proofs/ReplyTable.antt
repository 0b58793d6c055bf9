-- The table of replies: each answer comes exactly in its case.
use Rattle.std.proofs.Common.{◌≡◌, ◌⊎◌, inl, inr, ℕ, zero, suc, List, [], length, Result, Ok, Err, refl, sym, subst, ap, ◌∙◌, take, drop}
use Rattle.std.specs.Prelude.{◌↔◌, codes, IfErr}
use Rattle.std.proofs.lemmas.Option.{same_Some}
use Rattle.httparse.specs.Grammar.{ResponseHead, status_code}
use Rattle.httparse.specs.Spans.{IsResponseAt}
use Rattle.chk_http_grammar.specs.Heads.{HasReplyHead, stated_lengths}
use Rattle.chk_http_grammar.specs.Messages.{IsReply}
use Rattle.chk_http_grammar.proofs.HeadLemmas.{HasReplyHead-same}
use Rattle.chk_http.specs.declared.fault.HttpFault.{HttpFault}
use Rattle.chk_http.specs.declared.fault.HttpFault.TheVariants.{BadHead, NoLength, TooLarge, NotYet, BadPath, BadMethod, BadLine}
use Rattle.chk_http.specs.declared.head.ReplyPlaces.{ReplyPlaces}
use Rattle.chk_http.specs.declared.reply.ReplyRef.{ReplyRef}
use Rattle.chk_http.specs.HeaderLines.{values_at}
use Rattle.chk_http.specs.Heads.{HasNoReplyHead, IsReplyHeadFault, IsEndlessReply}
use Rattle.chk_http.specs.Bodies.{BodyStands, IsBadLength, IsLongLength, IsCutBody}
use Rattle.chk_http.specs.Replies.{Replied, replied_in, replied_at, AnswersReplied, HasReplied, IsReplyWithoutLength, HasBadReplyLength, HasLongReplyBody, HasCutReplyBody, IsBadReplyHead, IsTooLargeReply, IsNotYetReply, GivesReply, IsReplyFault}
use Rattle.chk_http.proofs.AskedLemmas.{values_at-fields}
use Rattle.chk_http.proofs.Stages.{lengths_stage, lengths_none, lengths_bad, lengths_long, lengths_cut, lengths_stand}

abbrev pub Answer : Type 0
Answer = Result ReplyRef HttpFault

-- what the places say is what the head says
pub replied_at-head : (bytes : List ℕ) (p : ReplyPlaces) (h : ResponseHead) → IsResponseAt bytes p.headers p.spans h
    → replied_at bytes p ≡ replied_in h (drop p.spans.len bytes)
replied_at-head bytes p h at =
    let behind = drop p.spans.len bytes in
    let stated = codes "content-length" in
    let lengths = values_at stated bytes (take p.spans.headers p.headers) in
    ap (λ c. replied c lengths behind) at.code
    ∙ ap (λ l. replied (status_code h) l behind) (values_at-fields stated bytes p.headers p.spans.headers h.fields at.fields)
  where
    replied : ℕ → List (List ℕ) → List ℕ → Replied
    replied code lengths behind = record { code = code; lengths = lengths; behind = behind }

-- ---- the answer that is due at a stage

abbrev pub AnswersWhole : Replied → Answer → Type 0
AnswersWhole a (Ok reply) = (reply.code ≡ a.code) × BodyStands a.lengths a.behind reply.body.now
AnswersWhole a (Err fault) = ⊥

abbrev pub IsDue : Replied → ℕ → Answer → Type 0
IsDue a zero r = Unit {0}
IsDue a (suc zero) r = Unit {0}
IsDue a (suc (suc zero)) r = Unit {0}
IsDue a (suc (suc (suc zero))) r = r ≡ Err NoLength
IsDue a (suc (suc (suc (suc zero)))) r = r ≡ Err BadHead
IsDue a (suc (suc (suc (suc (suc zero))))) r = r ≡ Err TooLarge
IsDue a (suc (suc (suc (suc (suc (suc zero)))))) r = r ≡ Err NotYet
IsDue a (suc (suc (suc (suc (suc (suc (suc n))))))) r = AnswersWhole a r

abbrev stage : Replied → ℕ
stage a = lengths_stage a.lengths a.behind

due : (a : Replied) (r : Answer) → AnswersReplied a r → IsDue a (stage a) r
due a (Ok reply) says = subst (λ k. IsDue a k (Ok reply)) (sym (lengths_stand a.lengths a.behind reply.body.now says.1)) says
due a (Err NoLength) says = subst (λ k. IsDue a k (Err NoLength)) (sym (lengths_none a.lengths a.behind says)) refl
due a (Err BadHead) says = subst (λ k. IsDue a k (Err BadHead)) (sym (lengths_bad a.lengths a.behind says)) refl
due a (Err TooLarge) says = subst (λ k. IsDue a k (Err TooLarge)) (sym (lengths_long a.lengths a.behind says)) refl
due a (Err NotYet) says = subst (λ k. IsDue a k (Err NotYet)) (sym (lengths_cut a.lengths a.behind says)) refl
due a (Err BadPath) says = absurd says
due a (Err BadMethod) says = absurd says
due a (Err BadLine) says = absurd says

-- ---- over the bytes

-- no small head stands there, or one and what the answer says of it
abbrev pub IsAnswered : List ℕ → Answer → Type 0
IsAnswered bytes r =
    ((fault : HttpFault) × (r ≡ Err fault) × IsReplyHeadFault bytes fault × HasNoReplyHead bytes
    × (IsEndlessReply bytes → fault ≡ TooLarge))
    ⊎ HasReplied bytes (λ a. AnswersReplied a r)

-- what the one head says
replied_same : (bytes : List ℕ) (says : Replied → Type 0) (head : ResponseHead) (behind : List ℕ)
    → HasReplyHead bytes head behind
    → HasReplied bytes says → says (replied_in head behind)
replied_same bytes says head behind has replied =
    let same = HasReplyHead-same bytes replied.0 head replied.1 behind replied.2 has in
    subst (λ h. says (replied_in h behind)) same.0 (subst (λ b. says (replied_in replied.0 b)) same.1 replied.3)

-- where what is said is known, the answer is the one that is due
record Due (bytes : List ℕ) (says : Replied → Type 0) (k : ℕ) (r : Answer) : Type 0 where
  replied : Replied
  says_so : says replied
  is : IsDue replied k r

due_at : (bytes : List ℕ) (r : Answer) (says : Replied → Type 0) (k : ℕ) → ((a : Replied) → says a → stage a ≡ k)
    → IsAnswered bytes r → HasReplied bytes says → Due bytes says k r
due_at bytes r says k at (inl none) replied = absurd (none.3 replied.0 replied.1 replied.2)
due_at bytes r says k at (inr some) replied =
    let a = replied_in some.0 some.1 in
    let so = replied_same bytes says some.0 some.1 some.2 replied in
    record { replied = a; says_so = so; is = subst (λ n. IsDue a n r) (at a so) (due a r some.3) }

-- what an answer says
told : (bytes : List ℕ) (r : Answer) (fault : HttpFault) → IsAnswered bytes r → r ≡ Err fault
    → IsReplyHeadFault bytes fault ⊎ HasReplied bytes (λ a. AnswersReplied a (Err fault))
told bytes r fault (inl none) e =
    let same : none.0 ≡ fault = let both : Err none.0 ≡ Err fault = sym none.1 ∙ e in cc in
    inl (subst (IsReplyHeadFault bytes) same none.2)
told bytes r fault (inr some) e = inr (some.0, some.1, some.2, subst (λ r. AnswersReplied (replied_in some.0 some.1) r) e some.3)

row_no_length : (bytes : List ℕ) (r : Answer) → IsAnswered bytes r → (r ≡ Err NoLength) ↔ IsReplyWithoutLength bytes
unfolding IsReplyWithoutLength
row_no_length bytes r is = (
  (λ e. elim (told bytes r NoLength is e) [ inl no_head ↦ absurd no_head | inr some ↦ some ]),
  (λ replied. (due_at bytes r (λ a. a.lengths ≡ []) 3 (λ a s. lengths_none a.lengths a.behind s) is replied).is),
)

row_bad_head : (bytes : List ℕ) (r : Answer) → IsAnswered bytes r → r ≡ Err BadHead → IsBadReplyHead bytes
unfolding HasBadReplyLength
row_bad_head bytes r is e = told bytes r BadHead is e

row_bad_length : (bytes : List ℕ) (r : Answer) → IsAnswered bytes r → HasBadReplyLength bytes → r ≡ Err BadHead
unfolding HasBadReplyLength
row_bad_length bytes r is replied =
    (due_at bytes r (λ a. IsBadLength a.lengths) 4 (λ a s. lengths_bad a.lengths a.behind s) is replied).is

row_too_large : (bytes : List ℕ) (r : Answer) → IsAnswered bytes r → r ≡ Err TooLarge → IsTooLargeReply bytes
unfolding HasLongReplyBody
row_too_large bytes r is e = told bytes r TooLarge is e

row_long_body : (bytes : List ℕ) (r : Answer) → IsAnswered bytes r → HasLongReplyBody bytes → r ≡ Err TooLarge
unfolding HasLongReplyBody
row_long_body bytes r is replied =
    (due_at bytes r (λ a. IsLongLength a.lengths) 5 (λ a s. lengths_long a.lengths a.behind s) is replied).is

row_not_yet : (bytes : List ℕ) (r : Answer) → IsAnswered bytes r → r ≡ Err NotYet → IsNotYetReply bytes
unfolding HasCutReplyBody
row_not_yet bytes r is e = told bytes r NotYet is e

row_cut_body : (bytes : List ℕ) (r : Answer) → IsAnswered bytes r → HasCutReplyBody bytes → r ≡ Err NotYet
unfolding HasCutReplyBody
row_cut_body bytes r is replied =
    (due_at bytes r (λ a. IsCutBody a.lengths a.behind) 6 (λ a s. lengths_cut a.lengths a.behind s) is replied).is

row_endless : (bytes : List ℕ) (r : Answer) → IsAnswered bytes r → IsEndlessReply bytes → r ≡ Err TooLarge
row_endless bytes r (inl none) endless = none.1 ∙ ap Err (none.4 endless)
row_endless bytes r (inr some) endless = absurd (endless.1 some.0 some.1 some.2)

head_fault : (bytes : List ℕ) (fault : HttpFault) → IsReplyHeadFault bytes fault → IsReplyFault fault
head_fault bytes BadHead is = tt
head_fault bytes TooLarge is = tt
head_fault bytes NotYet is = tt
head_fault bytes NoLength is = tt
head_fault bytes BadPath is = absurd is
head_fault bytes BadMethod is = absurd is
head_fault bytes BadLine is = absurd is

body_fault : (a : Replied) (r : Answer) → AnswersReplied a r → IfErr r IsReplyFault
body_fault a (Ok reply) says = tt
body_fault a (Err BadHead) says = tt
body_fault a (Err TooLarge) says = tt
body_fault a (Err NotYet) says = tt
body_fault a (Err NoLength) says = tt
body_fault a (Err BadPath) says = absurd says
body_fault a (Err BadMethod) says = absurd says
body_fault a (Err BadLine) says = absurd says

row_faults : (bytes : List ℕ) (r : Answer) → IsAnswered bytes r → IfErr r IsReplyFault
row_faults bytes r (inl none) = subst (λ r. IfErr r IsReplyFault) (sym none.1) (head_fault bytes none.0 none.2)
row_faults bytes r (inr some) = body_fault (replied_in some.0 some.1) r some.3

-- ---- replies

row_reply : (bytes : List ℕ) (code : ℕ) (body : List ℕ) (r : Answer) → IsAnswered bytes r → GivesReply r code body
    → IsReply code body bytes
row_reply bytes code body (Ok reply) (inl none) gives = absurd (let both = none.1 in cc)
row_reply bytes code body (Ok reply) (inr some) gives =
    let stands = subst (λ b. BodyStands (stated_lengths some.0.fields) some.1 b) gives.1 some.3.1 in
    record {
      head = some.0;
      behind = some.1;
      has_head = some.2;
      code_is = sym some.3.0 ∙ gives.0;
      has = record { stated = stands.stated; short = stands.short; is = stands.is };
    }
row_reply bytes code body (Err fault) is gives = absurd gives

abbrev IsSaid : ℕ → List ℕ → Replied → Type 0
IsSaid code body a = (a.code ≡ code) × BodyStands a.lengths a.behind body

same_reply : (a : Replied) (code : ℕ) (body : List ℕ) (r : Answer) → IsSaid code body a → AnswersWhole a r
    → GivesReply r code body
same_reply a code body (Ok reply) says d =
    let long : length reply.body.now ≡ length body = same_Some (length reply.body.now) (length body) (sym d.1.stated ∙ says.1.stated) in
    (d.0 ∙ says.0, d.1.is ∙ (ap (λ n. take n a.behind) long ∙ sym says.1.is))
same_reply a code body (Err fault) says d = absurd d

row_reply_found : (bytes : List ℕ) (code : ℕ) (body : List ℕ) (r : Answer) → IsAnswered bytes r
    → IsReply code body bytes
    → GivesReply r code body
row_reply_found bytes code body r is reply =
    let replied : HasReplied bytes (IsSaid code body) = (
      reply.head,
      reply.behind,
      reply.has_head,
      (reply.code_is, record { stated = reply.has.stated; short = reply.has.short; is = reply.has.is }),
    ) in
    let d = due_at bytes r (IsSaid code body) 7 (λ a s. lengths_stand a.lengths a.behind body s.1) is replied in
    same_reply d.replied code body r d.says_so d.is

-- all rows of the table
abbrev pub AllRows : List ℕ → Answer → Type 0
AllRows bytes r = record {
  reply : (code : ℕ) (body : List ℕ) → GivesReply r code body ↔ IsReply code body bytes;
  faults : IfErr r IsReplyFault;
  no_length : (r ≡ Err NoLength) ↔ IsReplyWithoutLength bytes;
  bad_head : r ≡ Err BadHead → IsBadReplyHead bytes;
  bad_length : HasBadReplyLength bytes → r ≡ Err BadHead;
  too_large : r ≡ Err TooLarge → IsTooLargeReply bytes;
  endless : IsEndlessReply bytes → r ≡ Err TooLarge;
  long_body : HasLongReplyBody bytes → r ≡ Err TooLarge;
  not_yet : r ≡ Err NotYet → IsNotYetReply bytes;
  cut_body : HasCutReplyBody bytes → r ≡ Err NotYet;
}

pub all_rows : (bytes : List ℕ) (r : Answer) → IsAnswered bytes r → AllRows bytes r
all_rows bytes r is = record {
  reply = λ code body. (row_reply bytes code body r is, row_reply_found bytes code body r is);
  faults = row_faults bytes r is;
  no_length = row_no_length bytes r is;
  bad_head = row_bad_head bytes r is;
  bad_length = row_bad_length bytes r is;
  too_large = row_too_large bytes r is;
  endless = row_endless bytes r is;
  long_body = row_long_body bytes r is;
  not_yet = row_not_yet bytes r is;
  cut_body = row_cut_body bytes r is;
}
