-- The lines of a good reply, line by line.
use Rattle.std.proofs.Common.{◌≡◌, ℕ, suc, ◌+◌, ◌-◌, ◌<◌, IsTrue, List, [], ◌∷◌, ◌++◌, length, take, map, Some, None, refl, sym, subst, ap, ap₂, ◌∙◌, arith, append_assoc}
use Rattle.std.specs.Prelude.{unwrap_or, decimal, nat_lt}
use Rattle.std.specs.List.{list_all}
use Rattle.std.proofs.lemmas.Bool.{and_parts, and_from, ltb-true, lt-ltb}
use Rattle.std.proofs.lemmas.Option.{none-some}
use Rattle.chk_bytes.specs.Numbers.{limit, plain_number}
use Rattle.chk_bytes.specs.Words.{parts_at, lacks, SplitsAt}
use Rattle.chk_bytes.specs.Stems.{Stem, is_stem, stem_text, read_stem}
use Rattle.chk_bytes.proofs.DecimalLemmas.{plain_number-decimal, plain_number-Some}
use Rattle.chk_bytes.proofs.PartLemmas.{parts_at-whole, parts_at-front, lacks-separator, same_split}
use Rattle.chk_bytes.proofs.StemLemmas.{read_stem-stem_text, read_stem-Some}
use Rattle.chk_http_grammar.specs.Messages.{Ack, ack_of, is_ack, ack_text, acks_text}
use Rattle.chk_http_grammar.proofs.Apart.{no_mark, no_mark_in_stem, ack_line, ack_parted}
use Rattle.chk_http.specs.declared.line_list.Line.{Line}
use Rattle.chk_http.specs.Lines.{IsLines, ack_of_parts, acks_in, AreLinesListed, HasNoLine, BeginsWithLine}
use Rattle.chk_http.proofs.QueryLemmas.{stem_at-text}

-- what an allowed line is
record LineFacts (a : Ack) : Type 0 where
  stem : IsTrue (is_stem a.stem)
  number : a.number < limit

line_facts : (a : Ack) → IsTrue (is_ack a) → LineFacts a
line_facts a is =
    let parts = and_parts (is_stem a.stem) (nat_lt a.number limit) is in
    record { stem = parts.0; number = ltb-true a.number limit parts.1 }

-- a line without its end
abbrev line_text : Ack → List ℕ
line_text a = stem_text a.stem ++ 32 ∷ decimal a.number

line_end : (a : Ack) (rest : List ℕ) → ack_text a ++ rest ≡ line_text a ++ 10 ∷ rest
line_end a rest = ack_line a rest ∙ sym (append_assoc (stem_text a.stem) (32 ∷ decimal a.number) (10 ∷ rest))

lacks_append : (c : ℕ) (xs ys : List ℕ) → IsTrue (lacks c xs) → IsTrue (lacks c ys) → IsTrue (lacks c (xs ++ ys))
lacks_append c [] ys h k = k
lacks_append c (x ∷ xs) ys h k =
    let parts = and_parts _ (lacks c xs) h in and_from _ (lacks c (xs ++ ys)) parts.0 (lacks_append c xs ys parts.1 k)

line_lacks_end : (a : Ack) → LineFacts a → IsTrue (lacks 10 (line_text a))
line_lacks_end a f =
    lacks_append 10 (stem_text a.stem) (32 ∷ decimal a.number) (no_mark_in_stem 10 a.stem (omega arith) f.stem)
    (no_mark 10 a.number (omega arith) f.number)

-- ---- the lines that a text names

named_line : (a : Ack) → LineFacts a → ack_of_parts (parts_at 32 (line_text a)) ≡ a
named_line a f =
    ap ack_of_parts (parts_at-front 32 (stem_text a.stem) (decimal a.number) (no_mark_in_stem 32 a.stem (omega arith) f.stem)
    ∙ ap (λ ps. stem_text a.stem ∷ ps) (parts_at-whole 32 (decimal a.number) (no_mark 32 a.number (omega arith) f.number)))
    ∙ (ap (λ s. ack_of s (unwrap_or (plain_number (decimal a.number)) 0)) (stem_at-text a.stem f.stem)
    ∙ ap (λ n. ack_of a.stem (unwrap_or n 0)) (plain_number-decimal a.number f.number))

acks_in-acks_text : (acks : List Ack) → IsTrue (list_all is_ack acks) → acks_in (length acks) (acks_text acks) ≡ acks
unfolding acks_in
acks_in-acks_text [] are = refl
acks_in-acks_text (a ∷ acks) are =
    let tests = and_parts (is_ack a) (list_all is_ack acks) are in
    let f = line_facts a tests.0 in
    let name = λ (line : List ℕ). ack_of_parts (parts_at 32 line) in
    ap (λ t. take (suc (length acks)) (map name (parts_at 10 t))) (line_end a (acks_text acks))
    ∙ (ap (λ ps. take (suc (length acks)) (map name ps)) (parts_at-front 10 (line_text a) (acks_text acks) (line_lacks_end a f))
    ∙ ap₂ (λ x xs. x ∷ xs) (named_line a f) (acks_in-acks_text acks tests.1))

pub lines_named : (count : ℕ) (acks : List Ack) (text : List ℕ) → IsLines count acks text → acks_in count text ≡ acks
lines_named count acks text lines =
    ap₂ acks_in (sym lines.many) lines.is ∙ acks_in-acks_text acks lines.are

pub lines_listed : (count : ℕ) (acks : List Ack) (text : List ℕ) → IsLines count acks text → AreLinesListed count text
lines_listed count acks text lines = subst (λ l. IsLines count l text) (sym (lines_named count acks text lines)) lines

pub no_lines : (text : List ℕ) → acks_in 0 text ≡ []
unfolding acks_in
no_lines text = refl

-- ---- the first line

next_lines : (n : ℕ) (acks : List Ack) (text : List ℕ) (line : Line) → IsLines (n + 1) acks text
    → BeginsWithLine text line
    → (rest : List Ack) × (acks ≡ ack_of line.stem line.number ∷ rest) × IsLines n rest line.behind.now
next_lines n [] text line lines begins = absurd (let many = lines.many in omega arith)
next_lines n (a ∷ acks) text line lines begins =
    let tests = and_parts (is_ack a) (list_all is_ack acks) lines.are in
    let same = ack_parted a (ack_of line.stem line.number) (acks_text acks) line.behind.now tests.0 begins.ack (sym lines.is ∙ begins.is) in
    let many = lines.many in (
      acks,
      ap (λ x. x ∷ acks) same.0,
      record { many = omega arith; are = tests.1; is = sym same.1 },
    )

no_next : (n : ℕ) (acks : List Ack) (text : List ℕ) → IsLines (n + 1) acks text → HasNoLine text → ⊥
no_next n [] text lines none = let many = lines.many in omega arith
no_next n (a ∷ acks) text lines none =
    none a (acks_text acks) (and_parts (is_ack a) (list_all is_ack acks) lines.are).0 lines.is

more_lines : (n : ℕ) (acks : List Ack) (text : List ℕ) (line : Line) → BeginsWithLine text line
    → IsLines n acks line.behind.now
    → IsLines (n + 1) (ack_of line.stem line.number ∷ acks) text
more_lines n acks text line begins lines =
    let many = lines.many in
    record {
      many = omega arith;
      are = and_from (is_ack (ack_of line.stem line.number)) (list_all is_ack acks) begins.ack lines.are;
      is = begins.is ∙ ap (λ b. ack_text (ack_of line.stem line.number) ++ b) lines.is;
    }

-- lines of which there is one at least
some_lines : (n : ℕ) (acks : List Ack) (text : List ℕ) → (n ≡ 0 → ⊥) → IsLines n acks text
    → IsLines ((n - 1) + 1) acks text
some_lines n acks text some lines =
    let many = lines.many in record { many = omega arith; are = lines.are; is = lines.is }

-- behind the first of listed lines the others are listed
pub listed_next : (left : ℕ) (text : List ℕ) (line : Line) → (left ≡ 0 → ⊥) → AreLinesListed left text
    → BeginsWithLine text line
    → (acks_in left text ≡ ack_of line.stem line.number ∷ acks_in (left - 1) line.behind.now)
    × AreLinesListed (left - 1) line.behind.now
listed_next left text line some listed begins =
    let next = next_lines (left - 1) (acks_in left text) text line (some_lines left (acks_in left text) text some listed) begins in
    let named = lines_named (left - 1) next.0 line.behind.now next.2 in (
      next.1 ∙ ap (λ l. ack_of line.stem line.number ∷ l) (sym named),
      lines_listed (left - 1) next.0 line.behind.now next.2,
    )

pub listed_line : (left : ℕ) (text : List ℕ) → (left ≡ 0 → ⊥) → AreLinesListed left text → HasNoLine text → ⊥
listed_line left text some listed none =
    no_next (left - 1) (acks_in left text) text (some_lines left (acks_in left text) text some listed) none

-- ---- line after line

-- how far a body was looked through: it is so many lines exactly where the rest is as many as are left
pub record IsReadTo (count : ℕ) (body rest : List ℕ) (left : ℕ) : Type 0 where
  pub up : (acks : List Ack) → IsLines left acks rest → (all : List Ack) × IsLines count all body
  pub down : (all : List Ack) → IsLines count all body → (acks : List Ack) × IsLines left acks rest

pub read_more : (count : ℕ) (body rest : List ℕ) (n : ℕ) (line : Line) → BeginsWithLine rest line
    → IsReadTo count body rest (n + 1)
    → IsReadTo count body line.behind.now n
read_more count body rest n line begins so_far = record {
  up = λ acks lines. so_far.up (ack_of line.stem line.number ∷ acks) (more_lines n acks rest line begins lines);
  down = λ all lines.
      let d = so_far.down all lines in
      let next = next_lines n d.0 rest line d.1 begins in
      (next.0, next.2);
}

pub read_refused : (count : ℕ) (body rest : List ℕ) (n : ℕ) → HasNoLine rest → IsReadTo count body rest (n + 1)
    → (all : List Ack) → IsLines count all body → ⊥
read_refused count body rest n none so_far all lines = let d = so_far.down all lines in no_next n d.0 rest d.1 none

pub read_all : (count : ℕ) (body rest : List ℕ) → rest ≡ [] → IsReadTo count body rest 0 → (all : List Ack)
    × IsLines count all body
read_all count body rest empty so_far = so_far.up [] record { many = refl; are = refl; is = empty }

-- ---- why no line stands in front

pub no_end : (text : List ℕ) → IsTrue (lacks 10 text) → HasNoLine text
no_end text lacking a behind is e =
    lacks-separator 10 (line_text a) behind (subst (λ t. IsTrue (lacks 10 t)) (e ∙ line_end a behind) lacking)

at_end : (text line behind : List ℕ) (a : Ack) (rest : List ℕ) → SplitsAt 10 text line behind → IsTrue (is_ack a)
    → text ≡ ack_text a ++ rest → line_text a ≡ line
at_end text line behind a rest split is e =
    (same_split 10 (line_text a) rest line behind (line_lacks_end a (line_facts a is)) split.front_lacks
    (sym (line_end a rest) ∙ (sym e ∙ split.whole))).0

at_space : (line stem number : List ℕ) (a : Ack) → SplitsAt 32 line stem number → IsTrue (is_ack a) → line_text a ≡ line
    → (stem_text a.stem ≡ stem) × (decimal a.number ≡ number)
at_space line stem number a split is e =
    same_split 32 (stem_text a.stem) (decimal a.number) stem number (no_mark_in_stem 32 a.stem (omega arith) (line_facts a is).stem)
    split.front_lacks (e ∙ split.whole)

pub no_space : (text line behind : List ℕ) → SplitsAt 10 text line behind → IsTrue (lacks 32 line) → HasNoLine text
no_space text line behind split lacking a rest is e =
    lacks-separator 32 (stem_text a.stem) (decimal a.number)
    (subst (λ t. IsTrue (lacks 32 t)) (sym (at_end text line behind a rest split is e)) lacking)

pub no_stem : (text line behind stem number : List ℕ) → SplitsAt 10 text line behind → SplitsAt 32 line stem number
    → read_stem stem ≡ None → HasNoLine text
no_stem text line behind stem number split split' none a rest is e =
    let parts = at_space line stem number a split' is (at_end text line behind a rest split is e) in
    none-some a.stem (sym none ∙ (ap read_stem (sym parts.0) ∙ read_stem-stem_text a.stem (line_facts a is).stem))

pub no_number : (text line behind stem number : List ℕ) → SplitsAt 10 text line behind → SplitsAt 32 line stem number
    → plain_number number ≡ None → HasNoLine text
no_number text line behind stem number split split' none a rest is e =
    let parts = at_space line stem number a split' is (at_end text line behind a rest split is e) in
    none-some a.number (sym none ∙ (ap plain_number (sym parts.1) ∙ plain_number-decimal a.number (line_facts a is).number))

pub line_found : (text line behind stem number : List ℕ) (x : Stem) (n : ℕ) → SplitsAt 10 text line behind
    → SplitsAt 32 line stem number
    → read_stem stem ≡ Some x → plain_number number ≡ Some n → IsTrue (is_ack (ack_of x n))
    × (text ≡ ack_text (ack_of x n) ++ behind)
line_found text line behind stem number x n split split' stem_is number_is =
    let spelled = read_stem-Some stem x stem_is in
    let written = plain_number-Some number n number_is in
    let whole : line ≡ line_text (ack_of x n) =
    split'.whole ∙ (ap (λ s. s ++ 32 ∷ number) (sym spelled.0) ∙ ap (λ m. stem_text x ++ 32 ∷ m) (sym written.0)) in (
      and_from (is_stem x) (nat_lt n limit) spelled.1 (lt-ltb n limit written.1),
      split.whole ∙ (ap (λ l. l ++ 10 ∷ behind) whole ∙ sym (line_end (ack_of x n) behind)),
    )
