-- The words of a line are those of one line at most.
use Rattle.std.proofs.Common.{◌≡◌, ℕ, ◌<◌, Bool, true, false, List, [], ◌∷◌, Option, Some, None, decimal, length, refl, ap, sym, ◌∙◌, true≢false, if◌then◌else◌, get_or, arith}
use Rattle.std.specs.Prelude.{IsTrue, codes, bytes_eq, is_some, unwrap_or, nat_lt, ◌&&◌, ◌==◌}
use Rattle.std.specs.Str.Parse.{digits_value}
use Rattle.std.proofs.lemmas.Bool.{eq-eqb, eqb-true}
use Rattle.std.proofs.lemmas.Option.{cond_some, none-some, same_Some}
use Rattle.chk_bytes.specs.Numbers.{limit, plain_number}
use Rattle.chk_bytes.specs.Words.{parts_at, joined_at, onto_first}
use Rattle.chk_bytes.proofs.DecimalLemmas.{plain_number-decimal, plain_number-Some}
use Rattle.chk_control.specs.declared.Class.{Class}
use Rattle.chk_control.specs.declared.Class.TheVariants.{Plain, Rotating, Lines}
use Rattle.chk_control.specs.Classes.{class_name, class_named}
use Rattle.chk_control.proofs.ClassLemmas.{named_is}
use Rattle.chk_world.specs.Checkpoints.{Line, Version as Text, One, Two, after_text, is_after_text, start_words, line_words, is_line, fits_version, guessed_after, guessed_start, guessed_line}
use Rattle.chk_world.proofs.CheckpointsRead.{line_facts, line_back, parts_back, rest_words, state_lacks, rest_lacks}
use Rattle.chk_checkpoint.specs.declared.words.Words.{Words}
use Rattle.chk_checkpoint.specs.declared.line.LineRef.{LineRef}
use Rattle.chk_checkpoint.specs.Lines.{state_word}
use Rattle.chk_checkpoint.specs.Fields.{words_in, last_words, has_start, count_of, lent, lent_after, IsLineText, IsLineWords, IsMeaning, start_in}
use denote.Ref.{Bor}

-- a line has as many words as its version says
pub counted : (v : Text) (l : Line) → length (line_words v l) ≡ count_of v
counted One l = refl
counted Two l = refl

-- a text that spells a line parts into its words
pub words_back : (v : Text) (l : Line) → is_line l ≡ true → parts_at 32 (joined_at 32 (line_words v l)) ≡ line_words v l
words_back v l h =
    let f = line_facts l h in
    parts_back 32 (state_word l.live) (rest_words v l) (state_lacks 32 l.live (omega arith)) (rest_lacks 32 v l (omega arith) f)

pub words_are : (v : Text) (text : List ℕ) (l : Line) → IsLineText v text l → parts_at 32 text ≡ line_words v l
words_are v text l h = ap (parts_at 32) (sym h.spelled) ∙ words_back v l h.line

-- the parts of a text join to it
abbrev has_part : List (List ℕ) → Bool
has_part [] = false
has_part (part ∷ parts) = true

parts_some : (c : ℕ) (text : List ℕ) → has_part (parts_at c text) ≡ true
parts_some c [] = refl
parts_some c (b ∷ text) = go (b == c) (parts_at c text)
  where
    go : (same : Bool) (parts : List (List ℕ)) → has_part (if same then [] ∷ parts else onto_first b parts) ≡ true
    go true parts = refl
    go false [] = refl
    go false (part ∷ parts) = refl

joined_more : (c b : ℕ) (parts : List (List ℕ)) → joined_at c (onto_first b parts) ≡ b ∷ joined_at c parts
joined_more c b [] = refl
joined_more c b (part ∷ []) = refl
joined_more c b (part ∷ next ∷ parts) = refl

joined_apart : (c : ℕ) (parts : List (List ℕ)) → has_part parts ≡ true → joined_at c ([] ∷ parts) ≡ c ∷ joined_at c parts
joined_apart c [] some = absurd (true≢false (sym some))
joined_apart c (part ∷ parts) some = refl

pub joined_back : (c : ℕ) (text : List ℕ) → joined_at c (parts_at c text) ≡ text
joined_back c [] = refl
joined_back c (b ∷ text) = go (joined_back c text) (b == c) refl
  where
    go : joined_at c (parts_at c text) ≡ text → (same : Bool) → (b == c) ≡ same
        → joined_at c (if same then [] ∷ parts_at c text else onto_first b (parts_at c text)) ≡ b ∷ text
    go before true e =
        joined_apart c (parts_at c text) (parts_some c text) ∙ ap (λ rest. c ∷ rest) before ∙ ap (λ x. x ∷ text) (sym (eqb-true b c e))
    go before false e = joined_more c b (parts_at c text) ∙ ap (λ rest. b ∷ rest) before

-- what stands behind the ninth word
abbrev behind_nine : List (List ℕ) → List (List ℕ)
behind_nine (a ∷ b ∷ c ∷ d ∷ e ∷ f ∷ g ∷ h ∷ i ∷ rest) = rest
behind_nine words = []

abbrev first_of_words : List (List ℕ) → List ℕ
first_of_words [] = []
first_of_words (word ∷ words) = word

-- no number stands where a line has one
no_number : (n : ℕ) (word : List ℕ) → n < limit → decimal n ≡ word → plain_number word ≡ None → ⊥
no_number n word small is none = none-some n (sym none ∙ (ap plain_number (sym is) ∙ plain_number-decimal n small))

-- no word of a line stands for nothing
pub no_live : (v : Text) (w : Words) (l : Line) → IsLineWords v (words_in w) l → ((live : Bool) → state_word live ≡ w.state.now → ⊥) → ⊥
no_live v w l h none = none l.live (ap (λ ws. get_or ws 0 []) h.spelled)

class_there : (class : Class) → class_named (class_name class) ≡ Some class
class_there Plain = refl
class_there Rotating = refl
class_there Lines = refl

pub no_class : (v : Text) (w : Words) (l : Line) → IsLineWords v (words_in w) l → class_named w.class.now ≡ None → ⊥
no_class v w l h none =
    none-some l.class (sym none ∙ (ap class_named (sym (ap (λ ws. get_or ws 3 []) h.spelled)) ∙ class_there l.class))

pub no_after : (v : Text) (w : Words) (l : Line) → IsLineWords v (words_in w) l
    → ((after : Option (List ℕ)) → IsTrue (is_after_text after) → after_text after ≡ w.after.now → ⊥) → ⊥
no_after v w l h none = none l.after (line_facts l h.line).after (ap (λ ws. get_or ws 8 []) h.spelled)

pub no_offset : (v : Text) (w : Words) (l : Line) → IsLineWords v (words_in w) l → plain_number w.offset.now ≡ None → ⊥
no_offset v w l h none =
    no_number l.offset w.offset.now (line_facts l h.line).offset (ap (λ ws. get_or ws 6 []) h.spelled) none

pub no_first : (v : Text) (w : Words) (l : Line) → IsLineWords v (words_in w) l → plain_number w.first.now ≡ None → ⊥
no_first v w l h none =
    no_number l.first w.first.now (line_facts l h.line).first (ap (λ ws. get_or ws 7 []) h.spelled) none

start_same : (v : Text) (w : Words) (l : Line) → IsLineWords v (words_in w) l → start_words v l.start ≡ last_words w.start
start_same v w l h = ap behind_nine h.spelled

pub no_start : (v : Text) (w : Words) (l : Line) → IsLineWords v (words_in w) l → start_in w.start ≡ None → ⊥
no_start v w l h none = go v w.start (start_same v w l h) none
  where
    go : (v : Text) (start : Option (Bor (List ℕ))) → start_words v l.start ≡ last_words start → start_in start ≡ None → ⊥
    go v None same e = none-some 0 (sym e)
    go One (Some word) same e = absurd (cc)
    go Two (Some word) same e = no_number l.start word.now (line_facts l h.line).start (ap first_of_words same) e

live_read : (live : Bool) → bytes_eq (state_word live) (codes "add") ≡ live
live_read true = refl
live_read false = refl

value_of : (word : List ℕ) (n : ℕ) → plain_number word ≡ Some n → digits_value 10 word ≡ n
value_of word n e = (cond_some (nat_lt (digits_value 10 word) limit && bytes_eq (decimal (digits_value 10 word)) word) (digits_value 10 word) n e).1

start_value : (start : Option (Bor (List ℕ))) (n : ℕ) → start_in start ≡ Some n → guessed_start (last_words start) ≡ n
start_value None n e = same_Some 0 n e
start_value (Some word) n e = value_of word.now n e

-- it is the one that the words would be
guessed_is : (v : Text) (w : Words) (l : LineRef) → IsMeaning v w l → guessed_line (words_in w) ≡ Some (lent l)
guessed_is v w l r =
    let a : bytes_eq w.state.now (codes "add") ≡ l.live = ap (λ word. bytes_eq word (codes "add")) (sym r.live) ∙ live_read l.live in
    let b : unwrap_or (class_named w.class.now) Plain ≡ l.class = ap (λ o. unwrap_or o Plain) r.class in
    let c = value_of w.offset.now l.offset r.offset in
    let d = value_of w.first.now l.first r.first in
    let e : guessed_after w.after.now ≡ lent_after l.after = sym r.after_is in
    let s = start_value w.start l.start r.start in
    let n : w.name.now ≡ l.name.now = ap (λ (x : Bor (List ℕ)). x.now) (sym r.name) in
    let k : w.kind.now ≡ l.kind.now = ap (λ (x : Bor (List ℕ)). x.now) (sym r.kind) in
    let p : w.path.now ≡ l.path.now = ap (λ (x : Bor (List ℕ)). x.now) (sym r.path) in
    ap Some (λ i. record {
      live = a i;
      name = n i;
      class = b i;
      kind = k i;
      path = p i;
      offset = c i;
      first = d i;
      after = e i;
      start = s i;
    })

-- so a line of these words is this one
pub same_line : (v : Text) (w : Words) (l : LineRef) → IsMeaning v w l → (m : Line) → IsLineWords v (words_in w) m → m ≡ lent l
same_line v w l r m h =
    same_Some m (lent l)
    (sym (line_back v m h.fits (line_facts m h.line)) ∙ (ap guessed_line h.spelled ∙ guessed_is v w l r))

start_fits : (v : Text) (start : Option (Bor (List ℕ))) (l : Line) → is_some start ≡ has_start v → start_in start ≡ Some l.start → fits_version v l ≡ true
start_fits One None l has e = eq-eqb l.start 0 (sym (same_Some 0 l.start e))
start_fits One (Some word) l has e = absurd (true≢false has)
start_fits Two start l has e = refl

start_spelled : (v : Text) (start : Option (Bor (List ℕ))) (n : ℕ) → is_some start ≡ has_start v → start_in start ≡ Some n → start_words v n ≡ last_words start
start_spelled One None n has e = refl
start_spelled One (Some word) n has e = absurd (true≢false has)
start_spelled Two None n has e = absurd (true≢false (sym has))
start_spelled Two (Some word) n has e = ap (λ d. d ∷ []) (plain_number-Some word.now n e).0

-- and where it may stand there, it is a line of them
pub is_of_words : (v : Text) (w : Words) (l : LineRef) → IsMeaning v w l → codes "=" ≡ w.equal.now → is_line (lent l) ≡ true → IsLineWords v (words_in w) (lent l)
is_of_words v w l r equal line = record {
  line = line;
  fits = start_fits v w.start (lent l) r.has r.start;
  spelled =
      let a = r.live in
      let b : class_name l.class ≡ w.class.now = sym (named_is w.class.now l.class r.class) in
      let c = (plain_number-Some w.offset.now l.offset r.offset).0 in
      let d = (plain_number-Some w.first.now l.first r.first).0 in
      let e = r.after in
      let s = start_spelled v w.start l.start r.has r.start in
      let n : l.name.now ≡ w.name.now = ap (λ (x : Bor (List ℕ)). x.now) r.name in
      let k : l.kind.now ≡ w.kind.now = ap (λ (x : Bor (List ℕ)). x.now) r.kind in
      let p : l.path.now ≡ w.path.now = ap (λ (x : Bor (List ℕ)). x.now) r.path in
      λ i. a i ∷ n i ∷ equal i ∷ b i ∷ k i ∷ p i ∷ c i ∷ d i ∷ e i ∷ s i;
}

pub equal_is : (v : Text) (w : Words) (l : Line) → IsLineWords v (words_in w) l → codes "=" ≡ w.equal.now
equal_is v w l h = ap (λ ws. get_or ws 2 []) h.spelled
