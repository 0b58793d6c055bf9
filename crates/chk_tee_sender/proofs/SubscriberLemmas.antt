-- The file of subscribers: what its lines are read as, and its grammar.
use Rattle.std.proofs.Common.{◌≡◌, ℕ, ◌+◌, ◌-◌, ◌<◌, ◌≤◌, Bool, true, false, not, ◌==◌, cond, List, [], ◌∷◌, ◌++◌, length, take, drop, map, Option, Some, None, Result, Ok, Err, refl, sym, ap, ◌∙◌, subst, arith, append_assoc, append-nil, length-append, inl, inr}
use Rattle.std.specs.Prelude.{IsTrue, nat_lt, position, is_some}
use Rattle.std.specs.List.{list_all}
use Rattle.std.specs.Result.{is_ok, is_err}
use Rattle.std.proofs.lemmas.Bool.{cond-true, cond-false, false_from_ne_true, and_parts, and_from, true≢false, lt-ltb, ltb-true}
use Rattle.std.proofs.lemmas.List.{length-drop, drop-drop, length-take-le}
use Rattle.std.proofs.lemmas.List.Quantifiers.{position-Some}
use Rattle.chk_bytes.specs.Words.{is_word, lacks, parts_at, joined_at}
use Rattle.chk_bytes.specs.WordFaults.{word_fault_of}
use Rattle.chk_bytes.specs.declared.word.WordFault.{WordFault}
use Rattle.chk_bytes.proofs.FaultLemmas.{faultless-from_is_word}
use Rattle.chk_bytes.proofs.WordLemmas.{word_lacks}
use Rattle.chk_bytes.proofs.PartLemmas.{parts_at-whole, parts_at-front, split_found, split_none, same_split, lacks-separator}
use Rattle.chk_tee.specs.Filters.{Part, OnHost, OnKind, OnName, part_text, IsFilter, HasParts, filter_in}
use Rattle.chk_tee.specs.declared.filters.Filter.{Filter}
use Rattle.chk_tee.proofs.FilterLemmas.{has_part, parts_some, joined_back, filter_read, read_filter_back, rest_sliced, sliced}
use Rattle.chk_tee_sender.specs.Subscribers.{IsSubscriber, AreLines, AreSubscribers, most_subscribers, with_filter, split_at, subscriber_in, ends_at, lines_from, subscribers_in}
use Rattle.chk_tee_sender.specs.declared.Subscriber.{Subscriber}

-- ---- one line

-- what a line with a space is
pub line_is : (line : List ℕ) (size : ℕ) (f : Filter) → Some size ≡ position (λ b. b == 32) line → IsTrue (is_word (take size line))
    → filter_in (drop (size + 1) line) ≡ Ok f → subscriber_in line ≡ Some (record { address = take size line; filter = f })
line_is line size f at word is =
    ap (split_at line) (sym at)
    ∙ (cond-true _ _ _ word ∙ ap (with_filter (take size line)) is)

no_word : (text : List ℕ) (o : Option WordFault) → o ≡ word_fault_of text → is_some o ≡ true → is_word text ≡ false
no_word text None e some = absurd (true≢false (sym some))
no_word text (Some fault) e some =
    false_from_ne_true _ (λ word. let none = faultless-from_is_word text word in absurd (cc))

pub line_unaddressed : (line : List ℕ) (size : ℕ) (o : Option WordFault) → Some size ≡ position (λ b. b == 32) line
    → o ≡ word_fault_of (take size line) → is_some o ≡ true → subscriber_in line ≡ None
line_unaddressed line size o at e some = ap (split_at line) (sym at) ∙ cond-false _ _ _ (no_word (take size line) o e some)

-- ---- all lines

abbrev turned : ℕ → List Subscriber → List ℕ → List (List ℕ) → Option Subscriber → Result (List Subscriber) ℕ
turned at before line more found =
    elim found [ Some s ↦ lines_from (at + (length line + 1)) (before ++ s ∷ []) more | None ↦ Err at ]

-- a line behind which another part stands
one_line : (at : ℕ) (before : List Subscriber) (line : List ℕ) (more : List (List ℕ)) → has_part more ≡ true
    → lines_from at before (line ∷ more)
    ≡ cond (nat_lt (length before) most_subscribers) (turned at before line more (subscriber_in line)) (Err at)
one_line at before line [] some = absurd (true≢false (sym some))
one_line at before line (next ∷ more) some = refl

-- the first line of the rest of a text
rest_split : (at size : ℕ) (text : List ℕ) → position (λ b. b == 10) (drop at text) ≡ Some size
    → (parts_at 10 (drop at text) ≡ take size (drop at text) ∷ parts_at 10 (drop (at + (size + 1)) text))
    × (length (take size (drop at text)) ≡ size)
rest_split at size text e =
    let split = split_found 10 size (drop at text) e in
    let within : size < length (drop at text) = (position-Some (λ b. b == 10) (drop at text) size 0 e).0 in (
      ap (parts_at 10) split.whole
          ∙ (parts_at-front 10 (take size (drop at text)) _ split.front_lacks
          ∙ ap (λ l. take size (drop at text) ∷ parts_at 10 l) (drop-drop (size + 1) at text)),
      length-take-le size (drop at text) (omega arith),
    )

here : (at size : ℕ) (before : List Subscriber) (text : List ℕ) → position (λ b. b == 10) (drop at text) ≡ Some size
    → lines_from at before (parts_at 10 (drop at text))
    ≡ cond (nat_lt (length before) most_subscribers)
    (turned at before (take size (drop at text)) (parts_at 10 (drop (at + (size + 1)) text)) (subscriber_in (take size (drop at text)))) (Err at)
here at size before text e =
    ap (lines_from at before) (rest_split at size text e).0
    ∙ one_line at before (take size (drop at text)) (parts_at 10 (drop (at + (size + 1)) text)) (parts_some 10 (drop (at + (size + 1)) text))

placed : (at : ℕ) (text : List ℕ) (o : Option ℕ) → o ≡ position (λ b. b == 10) (take (length text - at) (drop at text))
    → position (λ b. b == 10) (drop at text) ≡ o
placed at text o e = ap (position (λ b. b == 10)) (sym (rest_sliced at text)) ∙ sym e

pub next_line : (at size : ℕ) (before : List Subscriber) (s : Subscriber) (text : List ℕ)
    → Some size ≡ position (λ b. b == 10) (take (length text - at) (drop at text)) → length before < most_subscribers
    → subscriber_in (take (at + size - at) (drop at text)) ≡ Some s
    → lines_from (at + (size + 1)) (before ++ s ∷ []) (parts_at 10 (drop (at + (size + 1)) text))
    ≡ lines_from at before (parts_at 10 (drop at text))
next_line at size before s text e few is =
    let p = placed at text (Some size) e in
    let line : subscriber_in (take size (drop at text)) ≡ Some s = ap subscriber_in (sym (sliced at size text)) ∙ is in
    let more : List (List ℕ) = parts_at 10 (drop (at + (size + 1)) text) in
    sym
    (here at size before text p
    ∙ (cond-true _ _ _ (lt-ltb (length before) most_subscribers few)
    ∙ (ap (turned at before (take size (drop at text)) more) line
    ∙ ap (λ n. lines_from (at + (n + 1)) (before ++ s ∷ []) more) (rest_split at size text p).1)))

pub bad_line : (at size : ℕ) (before : List Subscriber) (text : List ℕ)
    → Some size ≡ position (λ b. b == 10) (take (length text - at) (drop at text)) → length before < most_subscribers
    → subscriber_in (take (at + size - at) (drop at text)) ≡ None
    → lines_from at before (parts_at 10 (drop at text)) ≡ Err at
bad_line at size before text e few is =
    let line : subscriber_in (take size (drop at text)) ≡ None = ap subscriber_in (sym (sliced at size text)) ∙ is in
    here at size before text (placed at text (Some size) e)
    ∙ (cond-true _ _ _ (lt-ltb (length before) most_subscribers few)
    ∙ ap (turned at before (take size (drop at text)) (parts_at 10 (drop (at + (size + 1)) text))) line)

not_fewer : (n m : ℕ) → m ≤ n → nat_lt n m ≡ false
not_fewer n m less = false_from_ne_true _ (λ t. let k : n < m = ltb-true n m t in absurd (omega arith))

pub line_too_many : (at size : ℕ) (before : List Subscriber) (text : List ℕ)
    → Some size ≡ position (λ b. b == 10) (take (length text - at) (drop at text)) → most_subscribers ≤ length before
    → lines_from at before (parts_at 10 (drop at text)) ≡ Err at
line_too_many at size before text e many =
    here at size before text (placed at text (Some size) e)
    ∙ cond-false _ _ _ (not_fewer (length before) most_subscribers many)

ends_wrong : (at : ℕ) (before : List Subscriber) (rest : List ℕ) → 0 < length rest → ends_at at before rest ≡ Err at
ends_wrong at before [] some = absurd (omega arith)
ends_wrong at before (b ∷ rest) some = refl

pub line_unended : (at : ℕ) (before : List Subscriber) (text : List ℕ)
    → None ≡ position (λ b. b == 10) (take (length text - at) (drop at text)) → at < length text
    → lines_from at before (parts_at 10 (drop at text)) ≡ Err at
line_unended at before text e within =
    ap (lines_from at before) (parts_at-whole 10 (drop at text) (split_none 10 (drop at text) (placed at text None e)))
    ∙ ends_wrong at before (drop at text) (omega (arith, length-drop at text))

-- ---- the grammar

-- a filter has no newline
parts_lack : (f g : Filter) (ps : List Part) → HasParts f ps g → list_all (lacks 10) (map part_text ps) ≡ true
parts_lack f g [] have = refl
parts_lack f g (OnHost word ∷ ps) have = and_from (lacks 10 word) _ (word_lacks 10 word (omega arith) have.1.0) (parts_lack have.0 g ps have.3)
parts_lack f g (OnKind word ∷ ps) have = and_from (lacks 10 word) _ (word_lacks 10 word (omega arith) have.1.0) (parts_lack have.0 g ps have.3)
parts_lack f g (OnName word ∷ ps) have = and_from (lacks 10 word) _ (word_lacks 10 word (omega arith) have.1.0) (parts_lack have.0 g ps have.3)

lacks-append : (c : ℕ) (front back : List ℕ) → lacks c front ≡ true → lacks c back ≡ true → lacks c (front ++ back) ≡ true
lacks-append c [] back h i = i
lacks-append c (b ∷ front) back h i =
    let p = and_parts (not (b == c)) (lacks c front) h in
    and_from (not (b == c)) (lacks c (front ++ back)) p.0 (lacks-append c front back p.1 i)

joined_lacks : (parts : List (List ℕ)) → list_all (lacks 10) parts ≡ true → lacks 10 (joined_at 38 parts) ≡ true
joined_lacks [] all = refl
joined_lacks (part ∷ []) all = (and_parts (lacks 10 part) true all).0
joined_lacks (part ∷ next ∷ parts) all =
    let p = and_parts (lacks 10 part) (list_all (lacks 10) (next ∷ parts)) all in
    lacks-append 10 part (38 ∷ joined_at 38 (next ∷ parts)) p.0 (joined_lacks (next ∷ parts) p.1)

filter_lacks : (f : Filter) (text : List ℕ) → IsFilter f text → lacks 10 text ≡ true
filter_lacks f text (inl (is, all)) = ap (lacks 10) all
filter_lacks f text (inr (ps, some, have, is)) = ap (lacks 10) is ∙ joined_lacks (map part_text ps) (parts_lack _ f ps have)

-- one line both ways
line_read : (line : List ℕ) (s : Subscriber) → subscriber_in line ≡ Some s → IsSubscriber s line
line_read line s h = go (position (λ b. b == 32) line) refl h
  where
    found : (size : ℕ) → position (λ b. b == 32) line ≡ Some size → is_word (take size line) ≡ true
        → (r : Result Filter ℕ) → filter_in (drop (size + 1) line) ≡ r → with_filter (take size line) r ≡ Some s → IsSubscriber s line
    found size e word (Ok f) is h =
        let same : Path Subscriber (record { address = take size line; filter = f }) s = cc in
        subst (λ (t : Subscriber). IsSubscriber t line) same record {
          address = word;
          filter = drop (size + 1) line;
          is_filter = filter_read f (drop (size + 1) line) is;
          is = (split_found 32 size line e).whole;
        }
    found size e word (Err bad) is h = absurd (cc)

    worded : (size : ℕ) → position (λ b. b == 32) line ≡ Some size → (b : Bool) → is_word (take size line) ≡ b
        → cond b (with_filter (take size line) (filter_in (drop (size + 1) line))) None ≡ Some s → IsSubscriber s line
    worded size e true word h = found size e word (filter_in (drop (size + 1) line)) refl h
    worded size e false word h = absurd (cc)

    go : (o : Option ℕ) → position (λ b. b == 32) line ≡ o → split_at line o ≡ Some s → IsSubscriber s line
    go (Some size) e h = worded size e (is_word (take size line)) refl h
    go None e h = absurd (cc)

line_back : (line : List ℕ) (s : Subscriber) → IsSubscriber s line → subscriber_in line ≡ Some s
line_back line s h = go (position (λ b. b == 32) line) refl
  where
    go : (o : Option ℕ) → position (λ b. b == 32) line ≡ o → subscriber_in line ≡ Some s
    go (Some size) e =
        let split = split_found 32 size line e in
        let same = same_split 32 (take size line) (drop (size + 1) line) s.address h.filter split.front_lacks
        (word_lacks 32 s.address (omega arith) h.address) (sym split.whole ∙ h.is) in
        line_is line size s.filter (sym e) (subst (λ (t : List ℕ). IsTrue (is_word t)) (sym same.0) h.address)
        (ap filter_in same.1 ∙ read_filter_back s.filter h.filter h.is_filter)
        ∙ ap (λ (a : List ℕ). Some (let t : Subscriber = record { address = a; filter = s.filter } in t)) same.0
    go None e =
        absurd (lacks-separator 32 s.address h.filter (subst (λ (t : List ℕ). IsTrue (lacks 32 t)) h.is (split_none 32 line e)))

line_lacks : (line : List ℕ) (s : Subscriber) → IsSubscriber s line → lacks 10 line ≡ true
line_lacks line s h =
    ap (lacks 10) h.is
    ∙ lacks-append 10 s.address (32 ∷ h.filter) (word_lacks 10 s.address (omega arith) h.address) (filter_lacks s.filter h.filter h.is_filter)

-- all lines are read
record AreRead (before : List Subscriber) (parts : List (List ℕ)) (all : List Subscriber) : Type 0 where
  more : List Subscriber
  is : all ≡ before ++ more
  few : length before ≤ most_subscribers → length all ≤ most_subscribers
  lines : AreLines more (joined_at 10 parts)

parts_read : (at : ℕ) (before all : List Subscriber) (parts : List (List ℕ)) → has_part parts ≡ true → lines_from at before parts ≡ Ok all
    → AreRead before parts all
parts_read at before all [] some h = absurd (true≢false (sym some))
parts_read at before all ([] ∷ []) some h =
    let same : before ≡ all = cc in
    record { more = []; is = sym same ∙ sym (append-nil before); few = λ few. subst (λ (l : List Subscriber). length l ≤ most_subscribers) same few; lines = refl }
parts_read at before all ((b ∷ line) ∷ []) some h = absurd (cc)
parts_read at before all (line ∷ next ∷ parts) some h =
    go (λ s more. parts_read (at + (length line + 1)) (before ++ s ∷ []) all (next ∷ parts) refl more)
    (nat_lt (length before) most_subscribers) refl (subscriber_in line) refl h
  where
    go : ((s : Subscriber) → lines_from (at + (length line + 1)) (before ++ s ∷ []) (next ∷ parts) ≡ Ok all
        → AreRead (before ++ s ∷ []) (next ∷ parts) all)
        → (b : Bool) → nat_lt (length before) most_subscribers ≡ b → (o : Option Subscriber) → subscriber_in line ≡ o
        → cond b (turned at before line (next ∷ parts) o) (Err at) ≡ Ok all → AreRead before (line ∷ next ∷ parts) all
    go on true e (Some s) is h =
        let rest = on s h in
        let fewer : length before < most_subscribers = ltb-true (length before) most_subscribers e in
        record {
          more = s ∷ rest.more;
          is = rest.is ∙ append_assoc before (s ∷ []) rest.more;
          few = λ few. rest.few (omega (arith, length-append before (s ∷ [])));
          lines = (line, joined_at 10 (next ∷ parts), line_read line s is, refl, rest.lines);
        }
    go on true e None is h = absurd (cc)
    go on false e o is h = absurd (cc)

-- and what is read is all lines
lines_back : (at : ℕ) (before more : List Subscriber) (text : List ℕ) → AreLines more text → length before + length more ≤ most_subscribers
    → lines_from at before (parts_at 10 text) ≡ Ok (before ++ more)
lines_back at before [] text lines few = ap (λ t. lines_from at before (parts_at 10 t)) lines ∙ ap (λ (l : List Subscriber). Ok l) (sym (append-nil before))
lines_back at before (s ∷ more) text (line, behind, is, whole, rest) few =
    ap (λ t. lines_from at before (parts_at 10 t)) whole
    ∙ (ap (lines_from at before) (parts_at-front 10 line behind (line_lacks line s is))
    ∙ (one_line at before line (parts_at 10 behind) (parts_some 10 behind)
    ∙ (cond-true _ _ _ (lt-ltb (length before) most_subscribers (omega arith))
    ∙ (ap (turned at before line (parts_at 10 behind)) (line_back line s is)
    ∙ (lines_back (at + (length line + 1)) (before ++ s ∷ []) more behind rest (omega (arith, length-append before (s ∷ [])))
    ∙ ap (λ (l : List Subscriber). Ok l) (append_assoc before (s ∷ []) more))))))

pub subscribers_read : (all : List Subscriber) (text : List ℕ) → subscribers_in text ≡ Ok all → AreSubscribers all text
unfolding subscribers_in
subscribers_read all text h =
    let read = parts_read 0 [] all (parts_at 10 text) (parts_some 10 text) h in
    record {
      few = read.few (omega arith);
      lines = subst (λ (l : List Subscriber). AreLines l text) (sym read.is)
          (subst (λ (t : List ℕ). AreLines read.more t) (joined_back 10 text) read.lines);
    }

pub subscribers_back : (all : List Subscriber) (text : List ℕ) → AreSubscribers all text → subscribers_in text ≡ Ok all
unfolding subscribers_in
subscribers_back all text h = lines_back 0 [] all text h.lines (omega (arith, h.few))

-- ---- the function that reads

pub whole_text : (text : List ℕ) → lines_from 0 [] (parts_at 10 text) ≡ subscribers_in text
unfolding subscribers_in
whole_text text = refl

pub ok_from : {T E : Type 0} (r : Result T E) → is_err r ≡ false → is_ok r ≡ true
ok_from (Ok value) e = refl
ok_from (Err fault) e = absurd (true≢false e)
