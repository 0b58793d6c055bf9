-- Which answer is due to what is asked: the first row of the table that fits, by its number.
use Rattle.std.proofs.Common.{◌≡◌, ◌≢◌, ◌⊎◌, inl, inr, ℕ, ◌<◌, ◌≤◌, Bool, true, false, ◌&&◌, ◌||◌, cond, ltb, List, [], ◌∷◌, ◌++◌, length, get_or, take, drop, min, Option, Some, None, refl, sym, subst, ap, ◌∙◌, arith, length-append}
use Rattle.std.specs.Prelude.{bytes_eq, codes, nat_lt}
use Rattle.std.proofs.lemmas.Bool.{and_from, and_parts, or_left, or_right, or_from, ltb-true, lt-ltb, le-ltb, cond-true, cond-false, false_from_ne_true}
use Rattle.std.proofs.lemmas.List.{length-take, take-append-drop, take-append-le}
use Rattle.std.proofs.lemmas.Slice.Eq.{bytes_eq-Decides}
use Rattle.std.proofs.Math.Nat.{min-le_right}
use Rattle.chk_chunk.specs.Posts.{post_limit}
use Rattle.chk_http_grammar.specs.Heads.{length_in}
use Rattle.chk_http.specs.Bodies.{BodyStands, IsBadLength, IsLongLength, IsCutBody}
use Rattle.chk_http.specs.Requests.{Asked, IsPollTarget, AsksNothing, AsksOtherwise, AsksToPoll, AsksToPost, PostsNoLength, PostsBadLength, PostsTooMuch, PostsTooFew, PostsBody}

-- two texts by their test
pub same_text : (x y : List ℕ) → x ≡ y → bytes_eq x y ≡ true
same_text x y e = (bytes_eq-Decides x y).1 e

pub other_text : (x y : List ℕ) → (x ≡ y → ⊥) → bytes_eq x y ≡ false
other_text x y differ = false_from_ne_true (bytes_eq x y) (λ e. differ ((bytes_eq-Decides x y).0 e))

-- ---- targets

abbrev pub is_post_target : List ℕ → Bool
is_post_target target = bytes_eq target (codes "/chukwa")

abbrev pub is_poll_target : List ℕ → Bool
is_poll_target target =
    bytes_eq target (codes "/acks") || (bytes_eq (take 6 target) (codes "/acks?") && nat_lt 6 (length target))

poll_target : (target : List ℕ) → IsPollTarget target → is_poll_target target ≡ true
poll_target target (inl bare) = or_left (bytes_eq target (codes "/acks")) _ (same_text target (codes "/acks") bare)
poll_target target (inr rest) =
    let front : take 6 target ≡ codes "/acks?" = ap (take 6) rest.2 ∙ take-append-le 6 (codes "/acks?") rest.0 (omega arith) in
    let long : 6 < length target = omega (arith, rest.1, ap length rest.2, length-append (codes "/acks?") rest.0) in
    or_right (bytes_eq target (codes "/acks")) (bytes_eq (take 6 target) (codes "/acks?") && nat_lt 6 (length target))
    (and_from (bytes_eq (take 6 target) (codes "/acks?")) (nat_lt 6 (length target)) (same_text (take 6 target) (codes "/acks?") front)
    (lt-ltb 6 (length target) long))

no_poll_target : (target : List ℕ) → (IsPollTarget target → ⊥) → is_poll_target target ≡ false
no_poll_target target none =
    or_from (bytes_eq target (codes "/acks")) (bytes_eq (take 6 target) (codes "/acks?") && nat_lt 6 (length target))
    (other_text target (codes "/acks") (λ e. none (inl e)))
    (false_from_ne_true (bytes_eq (take 6 target) (codes "/acks?") && nat_lt 6 (length target)) (λ e. none (inr (rest e))))
  where
    rest : (bytes_eq (take 6 target) (codes "/acks?") && nat_lt 6 (length target)) ≡ true
        → (query : List ℕ) × (0 < length query) × (target ≡ codes "/acks?" ++ query)
    rest e =
        let parts = and_parts (bytes_eq (take 6 target) (codes "/acks?")) (nat_lt 6 (length target)) e in
        let front = (bytes_eq-Decides (take 6 target) (codes "/acks?")).0 parts.0 in
        let whole : target ≡ codes "/acks?"
        ++ drop 6 target = sym (take-append-drop 6 target) ∙ ap (λ t. t ++ drop 6 target) front in
        let long = ltb-true 6 (length target) parts.1 in
        (drop 6 target, omega (arith, ap length whole, length-append (codes "/acks?") (drop 6 target)), whole)

-- the second byte tells
no_chukwa : (behind : List ℕ) → codes "/acks" ++ behind ≡ codes "/chukwa" → ⊥
no_chukwa behind e = let second : ◌≡◌ {A = ℕ} 97 99 = ap (λ t. get_or t 1 0) e in omega arith

-- no target is for both
poll_is_no_post : (target : List ℕ) → IsPollTarget target → is_post_target target ≡ false
poll_is_no_post target (inl bare) = other_text target (codes "/chukwa") (λ e. no_chukwa [] (sym bare ∙ e))
poll_is_no_post target (inr rest) = other_text target (codes "/chukwa") (λ e. no_chukwa (63 ∷ rest.0) (sym rest.2 ∙ e))

-- ---- the rows of the table, by number: 0 for no such target, 1 for another method, 2 for polls, and for posts
-- 3 without a length, 4 for a bad one, 5 for a long one, 6 for a cut body, 7 for a whole one

abbrev pub length_stage : Option ℕ → List ℕ → ℕ
length_stage None behind = 4
length_stage (Some n) behind = cond (ltb post_limit n) 5 (cond (ltb (length behind) n) 6 7)

abbrev pub lengths_stage : List (List ℕ) → List ℕ → ℕ
lengths_stage [] behind = 3
lengths_stage (value ∷ values) behind = length_stage (length_in (value ∷ values)) behind

abbrev pub post_stage : List (List ℕ) → List (List ℕ) → List ℕ → ℕ
post_stage [] lengths behind = lengths_stage lengths behind
post_stage (coding ∷ codings) lengths behind = 3

unfoldable pub stage : Asked → ℕ
stage a =
    cond (is_post_target a.target) (cond (bytes_eq a.method (codes "POST")) (post_stage a.codings a.lengths a.behind) 1)
    (cond (is_poll_target a.target) (cond (bytes_eq a.method (codes "GET")) 2 1) 0)

pub stage_nothing : (a : Asked) → AsksNothing a → stage a ≡ 0
unfolding stage
stage_nothing a asks =
    cond-false (is_post_target a.target) _ _ (other_text a.target (codes "/chukwa") asks.0)
    ∙ cond-false (is_poll_target a.target) _ _ (no_poll_target a.target asks.1)

pub stage_otherwise : (a : Asked) → AsksOtherwise a → stage a ≡ 1
unfolding stage
stage_otherwise a (inl post) =
    cond-true (is_post_target a.target) _ _ (same_text a.target (codes "/chukwa") post.0)
    ∙ cond-false (bytes_eq a.method (codes "POST")) _ _ (other_text a.method (codes "POST") post.1)
stage_otherwise a (inr poll) =
    cond-false (is_post_target a.target) _ _ (poll_is_no_post a.target poll.0)
    ∙ (cond-true (is_poll_target a.target) _ _ (poll_target a.target poll.0)
    ∙ cond-false (bytes_eq a.method (codes "GET")) _ _ (other_text a.method (codes "GET") poll.1))

pub stage_poll : (a : Asked) → AsksToPoll a → stage a ≡ 2
unfolding stage
stage_poll a poll =
    cond-false (is_post_target a.target) _ _ (poll_is_no_post a.target poll.0)
    ∙ (cond-true (is_poll_target a.target) _ _ (poll_target a.target poll.0)
    ∙ cond-true (bytes_eq a.method (codes "GET")) _ _ (same_text a.method (codes "GET") poll.1))

stage_post : (a : Asked) → AsksToPost a → stage a ≡ post_stage a.codings a.lengths a.behind
unfolding stage
stage_post a post =
    cond-true (is_post_target a.target) _ _ (same_text a.target (codes "/chukwa") post.0)
    ∙ cond-true (bytes_eq a.method (codes "POST")) _ _ (same_text a.method (codes "POST") post.1)

-- lengths, whatever message they are of
pub lengths_none : (lengths : List (List ℕ)) (behind : List ℕ) → lengths ≡ [] → lengths_stage lengths behind ≡ 3
lengths_none lengths behind e = ap (λ l. lengths_stage l behind) e

pub lengths_bad : (lengths : List (List ℕ)) (behind : List ℕ) → IsBadLength lengths → lengths_stage lengths behind ≡ 4
lengths_bad [] behind bad = absurd (bad.0 refl)
lengths_bad (value ∷ values) behind bad = ap (λ n. length_stage n behind) bad.1

some_lengths : (lengths : List (List ℕ)) (behind : List ℕ) (n : ℕ) → length_in lengths ≡ Some n
    → lengths_stage lengths behind ≡ length_stage (Some n) behind
some_lengths [] behind n is = cc
some_lengths (value ∷ values) behind n is = ap (λ n. length_stage n behind) is

pub lengths_long : (lengths : List (List ℕ)) (behind : List ℕ) → IsLongLength lengths → lengths_stage lengths behind ≡ 5
lengths_long lengths behind long =
    some_lengths lengths behind long.0 long.1 ∙ cond-true (ltb post_limit long.0) _ _ (lt-ltb post_limit long.0 long.2)

pub lengths_cut : (lengths : List (List ℕ)) (behind : List ℕ) → IsCutBody lengths behind
    → lengths_stage lengths behind ≡ 6
lengths_cut lengths behind cut =
    some_lengths lengths behind cut.0 cut.1 ∙ (cond-false (ltb post_limit cut.0) _ _ (le-ltb post_limit cut.0 cut.2)
    ∙ cond-true (ltb (length behind) cut.0) _ _ (lt-ltb (length behind) cut.0 cut.3))

pub BodyStands-fits : (lengths : List (List ℕ)) (behind body : List ℕ) → BodyStands lengths behind body
    → length body ≤ length behind
BodyStands-fits lengths behind body stands =
    let size : min (length body) (length behind) ≡ length body = sym (length-take (length body) behind) ∙ sym (ap length stands.is) in
    subst (λ n. n ≤ length behind) size (min-le_right (length body) (length behind))

pub lengths_stand : (lengths : List (List ℕ)) (behind body : List ℕ) → BodyStands lengths behind body
    → lengths_stage lengths behind ≡ 7
lengths_stand lengths behind body stands =
    some_lengths lengths behind (length body) stands.stated
    ∙ (cond-false (ltb post_limit (length body)) _ _ (le-ltb post_limit (length body) stands.short)
    ∙ cond-false (ltb (length behind) (length body)) _ _ (le-ltb (length behind) (length body) (BodyStands-fits lengths behind body stands)))

coded : (codings lengths : List (List ℕ)) (behind : List ℕ) → (codings ≢ []) ⊎ (lengths ≡ [])
    → post_stage codings lengths behind ≡ 3
coded [] lengths behind (inl some) = absurd (some refl)
coded [] lengths behind (inr none) = lengths_none lengths behind none
coded (coding ∷ codings) lengths behind either = refl

-- a post that isn't coded
stage_plain : (a : Asked) → AsksToPost a → a.codings ≡ [] → stage a ≡ lengths_stage a.lengths a.behind
stage_plain a post plain = stage_post a post ∙ ap (λ c. post_stage c a.lengths a.behind) plain

pub stage_no_length : (a : Asked) → PostsNoLength a → stage a ≡ 3
stage_no_length a posts = stage_post a posts.0 ∙ coded a.codings a.lengths a.behind posts.1

pub stage_bad_length : (a : Asked) → PostsBadLength a → stage a ≡ 4
stage_bad_length a posts = stage_plain a posts.0 posts.1 ∙ lengths_bad a.lengths a.behind posts.2

pub stage_too_much : (a : Asked) → PostsTooMuch a → stage a ≡ 5
stage_too_much a posts = stage_plain a posts.0 posts.1 ∙ lengths_long a.lengths a.behind posts.2

pub stage_too_few : (a : Asked) → PostsTooFew a → stage a ≡ 6
stage_too_few a posts = stage_plain a posts.0 posts.1 ∙ lengths_cut a.lengths a.behind posts.2

pub stage_body : (a : Asked) (body : List ℕ) → PostsBody a body → stage a ≡ 7
stage_body a body posts = stage_plain a posts.0 posts.1 ∙ lengths_stand a.lengths a.behind body posts.2
