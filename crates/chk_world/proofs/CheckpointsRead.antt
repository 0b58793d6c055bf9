-- A checkpoint's text is read back.
use Rattle.std.proofs.Common.{◌≡◌, ℕ, ◌^◌, ◌≤◌, ◌<◌, Bool, true, false, ◌||◌, not, List, [], ◌∷◌, ◌++◌, length, map, Option, Some, None, decimal, refl, ap, sym, ◌∙◌, true≢false, if◌then◌else◌, bytes_eq, arith, append_assoc}
use Rattle.std.specs.Prelude.{IsTrue, nat_lt, nat_le, ◌==◌, codes, unwrap_or}
use Rattle.std.specs.Char.{is_ascii_digit}
use Rattle.std.specs.List.{list_all}
use Rattle.std.specs.Str.Parse.{digits_value}
use Rattle.std.proofs.lemmas.Bool.{and_parts, and_from, ltb-true, leb-true, eqb-true}
use Rattle.std.proofs.lemmas.Bool.Decides.{nat_tests}
use Rattle.std.proofs.lemmas.Fmt.{digits_value-decimal}
use Rattle.std.proofs.lemmas.List.Folds.{list_all-append}
use Rattle.chk_bytes.specs.Numbers.{limit}
use Rattle.chk_bytes.specs.Words.{is_word, lacks, parts_at, joined_at, joined, spelling}
use Rattle.chk_bytes.proofs.DecimalLemmas.{all_digits}
use Rattle.chk_bytes.proofs.PartLemmas.{parts_at-whole, parts_at-front}
use Rattle.chk_bytes.proofs.WordLemmas.{word_lacks}
use Rattle.chk_bytes.proofs.SpellingLemmas.{spelling-spelled}
use Rattle.chk_control.specs.declared.Class.{Class}
use Rattle.chk_control.specs.declared.Class.TheVariants.{Plain, Rotating, Lines}
use Rattle.chk_control.specs.Classes.{class_name, class_named}
use Rattle.chk_control.specs.Lines.{is_name}
use Rattle.chk_site.specs.Suffixes.{is_suffix, is_date, is_date_byte}
use Rattle.chk_chunk.specs.Keys.{start_limit}
use Rattle.chk_http_grammar.proofs.Apart.{no_mark}
use Rattle.chk_world.specs.Checkpoints.{Line, Version, One, Two, after_text, version_text, start_words, line_words, line_text, checkpoint_text, is_after_text, is_line, are_apart, fits_version, are_lines, guessed_after, guessed_start, guessed_line, guessed_lines, guessed_version, behind_first, read_checkpoint}
use Rattle.chk_world.proofs.Ends.{bytes_same}
use Rattle.chk_bytes.proofs.StemLemmas.{decimal_value as number_back}

-- texts joined by a separator that none of them has are parted there again
pub parts_back : (c : ℕ) (word : List ℕ) (words : List (List ℕ)) → IsTrue (lacks c word) → list_all (lacks c) words ≡ true
    → parts_at c (joined_at c (word ∷ words)) ≡ word ∷ words
parts_back c word [] h all = parts_at-whole c word h
parts_back c word (next ∷ words) h all =
    let both = and_parts (lacks c next) (list_all (lacks c) words) all in
    parts_at-front c word (joined_at c (next ∷ words)) h ∙ ap (λ ps. word ∷ ps) (parts_back c next words both.0 both.1)

-- joined words have no other byte than theirs and the one between
pub joined_lacks : (c d : ℕ) (words : List (List ℕ)) → not (d == c) ≡ true → list_all (lacks c) words ≡ true → IsTrue (lacks c (joined_at d words))
joined_lacks c d [] apart all = refl
joined_lacks c d (word ∷ []) apart all = (and_parts (lacks c word) true all).0
joined_lacks c d (word ∷ next ∷ words) apart all =
    let both = and_parts (lacks c word) (list_all (lacks c) (next ∷ words)) all in
    list_all-append (λ b. not (b == c)) word (d ∷ joined_at d (next ∷ words))
    ∙ and_from _ _ both.0 (and_from _ _ apart (joined_lacks c d (next ∷ words) apart both.1))

-- texts of bytes above the space
above_lacks : (c : ℕ) (text : List ℕ) → c ≤ 32 → list_all (nat_lt 32) text ≡ true → IsTrue (lacks c text)
above_lacks c [] low all = refl
above_lacks c (b ∷ text) low all =
    let both = and_parts (nat_lt 32 b) (list_all (nat_lt 32) text) all in
    and_from _ _ (apart b (ltb-true 32 b both.0)) (above_lacks c text low both.1)
  where
    apart : (b : ℕ) → 32 < b → not (b == c) ≡ true
    apart b above = grind (arith, nat_tests)

date_byte_above : (b : ℕ) → is_date_byte b ≡ true → nat_lt 32 b ≡ true
date_byte_above b h = grind (arith, nat_tests)

date_above : (text : List ℕ) → list_all is_date_byte text ≡ true → list_all (nat_lt 32) text ≡ true
date_above [] h = refl
date_above (b ∷ text) h =
    let both = and_parts (is_date_byte b) (list_all is_date_byte text) h in
    and_from _ _ (date_byte_above b both.0) (date_above text both.1)

-- a suffix is longer than one byte, and has only bytes above the space
pub record SuffixFacts (suffix : List ℕ) : Type 0 where
  pub above : list_all (nat_lt 32) suffix ≡ true
  pub long : 1 < length suffix

first_above : (b : ℕ) → (b == 46 || b == 45) ≡ true → nat_lt 32 b ≡ true
first_above b h = grind (arith, nat_tests)

digit_above : (b : ℕ) → is_ascii_digit b ≡ true → nat_lt 32 b ≡ true
digit_above b h = grind (arith, nat_tests)

suffix_facts : (suffix : List ℕ) → IsTrue (is_suffix suffix) → SuffixFacts suffix
suffix_facts [] h = absurd (true≢false (sym h))
suffix_facts (b ∷ []) h = absurd (true≢false (sym (and_parts (b == 46 || b == 45) false h).1))
suffix_facts (b ∷ d ∷ text) h =
    let both = and_parts (b == 46 || b == 45) (is_date (d ∷ text)) h in
    let p1 = and_parts _ _ both.1 in
    let p2 = and_parts _ _ p1.0 in
    let p3 = and_parts _ _ p2.0 in
    let p4 = and_parts (is_ascii_digit d) _ p3.0 in
    record {
      above = and_from _ _ (first_above b both.0) (and_from _ _ (digit_above d p4.0) (date_above text p2.1));
      long = omega arith;
    }

-- what a line is, each part by its name
pub record LineFacts (l : Line) : Type 0 where
  pub name : IsTrue (is_word l.name)
  pub kind : IsTrue (is_word l.kind)
  pub path : IsTrue (is_word l.path)
  pub after : IsTrue (is_after_text l.after)
  pub start : l.start < limit
  pub first : l.first < limit
  pub offset : l.offset < limit

pub line_facts : (l : Line) → is_line l ≡ true → LineFacts l
line_facts l h =
    let p1 = and_parts (is_name l.name) _ h in
    let p2 = and_parts (is_word l.kind) _ p1.1 in
    let p3 = and_parts (is_word l.path) _ p2.1 in
    let p4 = and_parts (is_after_text l.after) _ p3.1 in
    let p5 = and_parts (nat_lt l.start start_limit) _ p4.1 in
    let p6 = and_parts (nat_le l.start l.first) _ p5.1 in
    let p7 = and_parts (nat_le l.first l.offset) _ p6.1 in
    let p8 = and_parts (nat_lt l.offset limit) _ p7.1 in
    let a = leb-true l.start l.first p6.0 in
    let b = leb-true l.first l.offset p7.0 in
    let c = ltb-true l.offset limit p8.0 in
    record {
      name = (and_parts _ (is_word l.name) p1.0).1;
      kind = p2.0;
      path = p3.0;
      after = p4.0;
      start = omega arith;
      first = omega arith;
      offset = c;
    }

-- no word of a line has a space or a line end
after_lacks : (c : ℕ) (after : Option (List ℕ)) → c ≤ 32 → IsTrue (is_after_text after) → IsTrue (lacks c (after_text after))
after_lacks c None low h = above_lacks c (codes "-") low refl
after_lacks c (Some suffix) low h = above_lacks c suffix low (suffix_facts suffix h).above

pub state_lacks : (c : ℕ) (live : Bool) → c ≤ 32 → IsTrue (lacks c (if live then codes "add" else codes "past"))
state_lacks c true low = above_lacks c (codes "add") low refl
state_lacks c false low = above_lacks c (codes "past") low refl

class_lacks : (c : ℕ) (class : Class) → c ≤ 32 → IsTrue (lacks c (class_name class))
class_lacks c Plain low = above_lacks c (class_name Plain) low refl
class_lacks c Rotating low = above_lacks c (class_name Rotating) low refl
class_lacks c Lines low = above_lacks c (class_name Lines) low refl

start_lacks : (c : ℕ) (v : Version) (start : ℕ) → c ≤ 32 → start < limit → list_all (lacks c) (start_words v start) ≡ true
start_lacks c One start low small = refl
start_lacks c Two start low small = and_from _ _ (no_mark c start (omega arith) small) refl

-- the words behind the first
abbrev pub rest_words : Version → Line → List (List ℕ)
rest_words v l =
    l.name ∷ codes "=" ∷ class_name l.class ∷ l.kind ∷ l.path ∷ decimal l.offset ∷ decimal l.first ∷ after_text l.after ∷ start_words v l.start

pub rest_lacks : (c : ℕ) (v : Version) (l : Line) → c ≤ 32 → LineFacts l → list_all (lacks c) (rest_words v l) ≡ true
rest_lacks c v l low f =
    and_from _ _ (word_lacks c l.name low f.name) (and_from _ _ (above_lacks c (codes "=") low refl)
    (and_from _ _ (class_lacks c l.class low) (and_from _ _ (word_lacks c l.kind low f.kind)
    (and_from _ _ (word_lacks c l.path low f.path) (and_from _ _ (no_mark c l.offset (omega arith) f.offset)
    (and_from _ _ (no_mark c l.first (omega arith) f.first) (and_from _ _ (after_lacks c l.after low f.after)
    (start_lacks c v l.start low f.start))))))))

-- each field is read back
live_back : (live : Bool) → bytes_eq (if live then codes "add" else codes "past") (codes "add") ≡ live
live_back true = refl
live_back false = refl

class_back : (class : Class) → unwrap_or (class_named (class_name class)) Plain ≡ class
class_back Plain = refl
class_back Rotating = refl
class_back Lines = refl

pub after_back : (after : Option (List ℕ)) → IsTrue (is_after_text after) → guessed_after (after_text after) ≡ after
after_back None h = refl
after_back (Some suffix) h = go (bytes_eq suffix (codes "-")) refl
  where
    go : (b : Bool) → bytes_eq suffix (codes "-") ≡ b → Path (Option (List ℕ)) (if b then None else Some suffix) (Some suffix)
    go false e = refl
    go true e =
        let long = (suffix_facts suffix h).long in
        let short = ap length (bytes_same suffix (codes "-") e) in
        absurd (let z : ⊥ = omega (arith, long, short) in z)

start_back : (v : Version) (l : Line) → fits_version v l ≡ true → l.start < limit → guessed_start (start_words v l.start) ≡ l.start
start_back One l fits small = sym (eqb-true l.start 0 fits)
start_back Two l fits small = number_back l.start small

pub line_back : (v : Version) (l : Line) → fits_version v l ≡ true → LineFacts l → guessed_line (line_words v l) ≡ Some l
line_back v l fits f =
    let a = live_back l.live in
    let b = class_back l.class in
    let c = number_back l.offset f.offset in
    let d = number_back l.first f.first in
    let e = after_back l.after f.after in
    let s = start_back v l fits f.start in
    ap Some (λ i. record {
      live = a i;
      name = l.name;
      class = b i;
      kind = l.kind;
      path = l.path;
      offset = c i;
      first = d i;
      after = e i;
      start = s i;
    })

-- the lines between the newlines, and the empty text behind the last one
abbrev bodies : Version → List Line → List (List ℕ)
bodies v [] = [] ∷ []
bodies v (l ∷ lines) = joined_at 32 (line_words v l) ∷ bodies v lines

pub words_lack : (c : ℕ) (v : Version) (l : Line) → c ≤ 32 → LineFacts l → list_all (lacks c) (line_words v l) ≡ true
words_lack c v l low f = and_from _ _ (state_lacks c l.live low) (rest_lacks c v l low f)

lines_parted : (v : Version) (lines : List Line) → list_all is_line lines ≡ true
    → parts_at 10 (joined (map (line_text v) lines)) ≡ bodies v lines
lines_parted v [] all = refl
lines_parted v (l ∷ lines) all =
    let both = and_parts (is_line l) (list_all is_line lines) all in
    let body = joined_at 32 (line_words v l) in
    let rest = joined (map (line_text v) lines) in
    ap (parts_at 10) (append_assoc body (10 ∷ []) rest)
    ∙ parts_at-front 10 body rest (joined_lacks 10 32 (line_words v l) refl (words_lack 10 v l (omega arith) (line_facts l both.0)))
    ∙ ap (λ ps. body ∷ ps) (lines_parted v lines both.1)

abbrev with_line : List Line → Option Line → List Line
with_line lines (Some l) = l ∷ lines
with_line lines None = lines

guessed_as : (text : List ℕ) (texts : List (List ℕ)) → guessed_lines (text ∷ texts) ≡ with_line (guessed_lines texts) (guessed_line (parts_at 32 text))
guessed_as text texts = go (guessed_line (parts_at 32 text))
  where
    go : (o : Option Line) → (elim o [ Some l ↦ l ∷ guessed_lines texts | None ↦ guessed_lines texts ]) ≡ with_line (guessed_lines texts) o
    go None = refl
    go (Some l) = refl

lines_back : (v : Version) (lines : List Line) → list_all is_line lines ≡ true → list_all (fits_version v) lines ≡ true
    → guessed_lines (bodies v lines) ≡ lines
lines_back v [] all fit = refl
lines_back v (l ∷ lines) all fit =
    let both = and_parts (is_line l) (list_all is_line lines) all in
    let fits = and_parts (fits_version v l) (list_all (fits_version v) lines) fit in
    let f = line_facts l both.0 in
    guessed_as (joined_at 32 (line_words v l)) (bodies v lines)
    ∙ ap (λ ws. with_line (guessed_lines (bodies v lines)) (guessed_line ws))
    (parts_back 32 (if l.live then codes "add" else codes "past") (rest_words v l) (state_lacks 32 l.live (omega arith)) (rest_lacks 32 v l (omega arith) f))
    ∙ ap (with_line (guessed_lines (bodies v lines))) (line_back v l fits.0 f)
    ∙ ap (λ ls. l ∷ ls) (lines_back v lines both.1 fits.1)

version_parted : (v : Version) (rest : List ℕ) → parts_at 10 (version_text v ++ 10 ∷ rest) ≡ version_text v ∷ parts_at 10 rest
version_parted One rest = parts_at-front 10 (version_text One) rest refl
version_parted Two rest = parts_at-front 10 (version_text Two) rest refl

version_back : (v : Version) (texts : List (List ℕ)) → guessed_version (version_text v ∷ texts) ≡ v
version_back One texts = refl
version_back Two texts = refl

pub checkpoint_back : (v : Version) (lines : List Line) → IsTrue (are_lines v lines)
    → read_checkpoint (checkpoint_text v lines) ≡ Some lines
unfolding read_checkpoint
checkpoint_back v lines h =
    let a = and_parts (nat_le (length lines) 10000) _ h in
    let b = and_parts (list_all is_line lines) _ a.1 in
    let c = and_parts (list_all (fits_version v) lines) (are_apart lines) b.1 in
    let text = checkpoint_text v lines in
    let parted : parts_at 10 text ≡ version_text v ∷ bodies v lines =
    version_parted v (joined (map (line_text v) lines)) ∙ ap (λ ps. version_text v ∷ ps) (lines_parted v lines b.0) in
    ap (λ ps. spelling (are_lines (guessed_version ps)) (checkpoint_text (guessed_version ps)) (guessed_lines (behind_first ps)) text) parted
    ∙ ap (λ w. spelling (are_lines w) (checkpoint_text w) (guessed_lines (bodies v lines)) text) (version_back v (bodies v lines))
    ∙ ap (λ ls. spelling (are_lines v) (checkpoint_text v) ls text) (lines_back v lines b.0 c.0)
    ∙ spelling-spelled (are_lines v) (checkpoint_text v) lines text h refl
