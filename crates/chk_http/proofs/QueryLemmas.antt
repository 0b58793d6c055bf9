-- Queries, part by part.
use Rattle.std.proofs.Common.{◌≡◌, inl, inr, ℕ, ◌+◌, Bool, true, false, IsTrue, List, [], ◌∷◌, ◌++◌, length, map, Option, Some, None, refl, sym, subst, ap, ◌∙◌, arith}
use Rattle.std.specs.Prelude.{IfSome, IfNone, unwrap_or, is_some, not, ◌==◌}
use Rattle.std.specs.List.{list_all}
use Rattle.std.specs.Str.{IsUtf8}
use Rattle.std.proofs.lemmas.Bool.{and_parts, and_from, false≢true, eqb-false}
use Rattle.std.proofs.lemmas.Option.{none-some}
use Rattle.chk_bytes.specs.Words.{parts_at, lacks, SplitsAt}
use Rattle.chk_bytes.specs.Stems.{Stem, stem_of, is_stem, stem_text, read_stem}
use Rattle.chk_bytes.proofs.PartLemmas.{parts_at-whole, parts_at-front, lacks-separator, same_split}
use Rattle.chk_bytes.proofs.StemLemmas.{read_stem-stem_text, read_stem-Some}
use Rattle.chk_http_grammar.specs.Messages.{query_text}
use Rattle.chk_http_grammar.proofs.Texts.{is_between, is_between-wider, list_all-weaker, utf8_from_between, query_between}
use Rattle.chk_http_grammar.proofs.Apart.{query_text-some, no_mark_in_stem}
use Rattle.chk_http.specs.Queries.{AreUpTo, stem_at, stems_in, AreListed, IsFirstPart}

-- ---- the stems that a text names

stems_in-some : (text : List ℕ) → (text ≡ [] → ⊥) → stems_in text ≡ map stem_at (parts_at 38 text)
unfolding stems_in
stems_in-some [] some = absurd (some refl)
stems_in-some (b ∷ text) some = refl

pub stems_in-nothing : stems_in [] ≡ []
unfolding stems_in
stems_in-nothing = refl

pub stem_at-text : (x : Stem) → IsTrue (is_stem x) → stem_at (stem_text x) ≡ x
stem_at-text x is = ap (λ o. unwrap_or o (stem_of [] 0 0)) (read_stem-stem_text x is)

named : (x : Stem) (stems : List Stem) → IsTrue (list_all is_stem (x ∷ stems))
    → map stem_at (parts_at 38 (query_text (x ∷ stems))) ≡ x ∷ stems
named x [] are =
    let is = (and_parts (is_stem x) true are).0 in
    ap (map stem_at) (parts_at-whole 38 (stem_text x) (no_mark_in_stem 38 x (omega arith) is)) ∙ ap (λ s. s ∷ []) (stem_at-text x is)
named x (y ∷ stems) are =
    let parts = and_parts (is_stem x) (list_all is_stem (y ∷ stems)) are in
    ap (map stem_at) (parts_at-front 38 (stem_text x) (query_text (y ∷ stems)) (no_mark_in_stem 38 x (omega arith) parts.0))
    ∙ (ap (λ s. s ∷ map stem_at (parts_at 38 (query_text (y ∷ stems)))) (stem_at-text x parts.0)
    ∙ ap (λ l. x ∷ l) (named y stems parts.1))

-- stems are named by their text
pub stems_in-query_text : (stems : List Stem) → IsTrue (list_all is_stem stems) → stems_in (query_text stems) ≡ stems
stems_in-query_text [] are = stems_in-nothing
stems_in-query_text (x ∷ stems) are =
    stems_in-some (query_text (x ∷ stems)) (query_text-some (x ∷ stems) (omega arith) are) ∙ named x stems are

pub listed : (stems : List Stem) (text : List ℕ) → IsTrue (list_all is_stem stems) → text ≡ query_text stems
    → (stems_in text ≡ stems) × AreListed text
listed stems text are is =
    let same : stems_in text ≡ stems = ap stems_in is ∙ stems_in-query_text stems are in (
      same,
      record { are = subst (λ l. IsTrue (list_all is_stem l)) (sym same) are; is = is ∙ ap query_text (sym same) },
    )

-- ---- the first part

pub last_part : (x : Stem) (text : List ℕ) → IsTrue (is_stem x) → text ≡ stem_text x → (read_stem text ≡ Some x)
    × IsTrue (lacks 38 text)
last_part x text is e = (
  ap read_stem e ∙ read_stem-stem_text x is,
  subst (λ t. IsTrue (lacks 38 t)) (sym e) (no_mark_in_stem 38 x (omega arith) is),
)

no_split : (text part behind : List ℕ) → IsTrue (lacks 38 text) → SplitsAt 38 text part behind → ⊥
no_split text part behind lacking split =
    lacks-separator 38 part behind (subst (λ t. IsTrue (lacks 38 t)) split.whole lacking)

-- a text that begins with a stem and goes on
first_part : (x y : Stem) (stems : List Stem) (text part behind : List ℕ) → IsTrue (is_stem x)
    → text ≡ query_text (x ∷ y ∷ stems)
    → SplitsAt 38 text part behind → (read_stem part ≡ Some x) × (behind ≡ query_text (y ∷ stems))
first_part x y stems text part behind is e split =
    let same = same_split 38 part behind (stem_text x) (query_text (y ∷ stems)) split.front_lacks
    (no_mark_in_stem 38 x (omega arith) is) (sym split.whole ∙ e) in
    (ap read_stem same.0 ∙ read_stem-stem_text x is, same.1)

-- what is known of the first part of listed stems
pub record Begins (text part behind : List ℕ) : Type 0 where
  pub stem : Stem
  pub reads : read_stem part ≡ Some stem
  pub all : stems_in text ≡ stem ∷ stems_in behind
  pub rest : AreListed behind

begins : (stems : List Stem) (text part behind : List ℕ) → stems_in text ≡ stems → IsTrue (list_all is_stem stems)
    → text ≡ query_text stems
    → (text ≡ [] → ⊥) → IsFirstPart text part behind → Begins text part behind
begins [] text part behind all are is some first = absurd (some is)
begins (x ∷ []) text part behind all are is some (inl split) =
    absurd (no_split text part behind (last_part x text (and_parts (is_stem x) true are).0 is).1 split)
begins (x ∷ []) text part behind all are is some (inr whole) =
    let last = last_part x text (and_parts (is_stem x) true are).0 is in
    let nothing = listed [] behind refl whole.2 in
    record {
      stem = x;
      reads = ap read_stem whole.1 ∙ last.0;
      all = all ∙ ap (λ l. x ∷ l) (sym nothing.0);
      rest = nothing.1;
    }
begins (x ∷ y ∷ stems) text part behind all are is some (inl split) =
    let tests = and_parts (is_stem x) (list_all is_stem (y ∷ stems)) are in
    let first = first_part x y stems text part behind tests.0 is split in
    let rest = listed (y ∷ stems) behind tests.1 first.1 in
    record {
      stem = x;
      reads = first.0;
      all = all ∙ ap (λ l. x ∷ l) (sym rest.0);
      rest = rest.1;
    }
begins (x ∷ y ∷ stems) text part behind all are is some (inr whole) =
    absurd (lacks-separator 38 (stem_text x) (query_text (y ∷ stems)) (subst (λ t. IsTrue (lacks 38 t)) is whole.0))

pub first_listed : (text part behind : List ℕ) (empty : Bool) → AreListed text → empty ≡ (length text == 0)
    → empty ≡ false
    → IsFirstPart text part behind → Begins text part behind
first_listed text part behind empty l test some first =
    begins (stems_in text) text part behind refl l.are l.is
    (λ e. eqb-false (length text) 0 (sym test ∙ some) (ap length e)) first

-- the next stem, as `next` answers it
pub next_item : (r : Option Stem) (x : Stem) (old new : List Stem) → r ≡ Some x → old ≡ x ∷ new
    → IfSome r (λ stem. old ≡ stem ∷ new)
next_item r x old new reads all = subst (λ o. IfSome o (λ stem. old ≡ stem ∷ new)) (sym reads) all

pub next_is : (r : Option Stem) (x : Stem) (P : Type 0) → r ≡ Some x → IfNone r P
next_is r x P reads = subst (λ o. IfNone o P) (sym reads) tt

-- ---- at most so many stems

-- a stem in front of stems
up_more : (n : ℕ) (x : Stem) (stems : List Stem) (text part behind : List ℕ) → read_stem part ≡ Some x
    → SplitsAt 38 text part behind
    → AreUpTo n stems behind → AreUpTo (n + 1) (x ∷ stems) text
up_more n x [] text part behind reads split are = absurd (let some = are.some in omega arith)
up_more n x (y ∷ stems) text part behind reads split are =
    let spelled = read_stem-Some part x reads in
    record {
      some = omega arith;
      few = omega (arith, are.few);
      are = and_from (is_stem x) (list_all is_stem (y ∷ stems)) spelled.1 are.are;
      is = split.whole ∙ (ap (λ p. p ++ 38 ∷ behind) (sym spelled.0) ∙ ap (λ b. stem_text x ++ 38 ∷ b) are.is);
    }

-- and what stands behind the first stem
record Front (n : ℕ) (part behind : List ℕ) : Type 0 where
  stem : Stem
  reads : read_stem part ≡ Some stem
  stems : List Stem
  rest : AreUpTo n stems behind

down_more : (n : ℕ) (stems : List Stem) (text part behind : List ℕ) → SplitsAt 38 text part behind
    → AreUpTo (n + 1) stems text
    → Front n part behind
down_more n [] text part behind split are = absurd (let some = are.some in omega arith)
down_more n (x ∷ []) text part behind split are =
    absurd (no_split text part behind (last_part x text (and_parts (is_stem x) true are.are).0 are.is).1 split)
down_more n (x ∷ y ∷ stems) text part behind split are =
    let tests = and_parts (is_stem x) (list_all is_stem (y ∷ stems)) are.are in
    let first = first_part x y stems text part behind tests.0 are.is split in
    record {
      stem = x;
      reads = first.0;
      stems = y ∷ stems;
      rest = record { some = omega arith; few = omega (arith, are.few); are = tests.1; is = first.1 };
    }

-- how far a text was looked through: it is a query exactly where the rest is so many stems
pub record IsLooked (text rest : List ℕ) (most : ℕ) : Type 0 where
  pub up : (stems : List Stem) → AreUpTo most stems rest → (all : List Stem) × AreUpTo 64 all text
  pub down : (all : List Stem) → AreUpTo 64 all text → (stems : List Stem) × AreUpTo most stems rest

pub looked_more : (text rest part behind : List ℕ) (n : ℕ) (x : Stem) → read_stem part ≡ Some x
    → SplitsAt 38 rest part behind
    → IsLooked text rest (n + 1) → IsLooked text behind n
looked_more text rest part behind n x reads split looked = record {
  up = λ stems are. looked.up (x ∷ stems) (up_more n x stems rest part behind reads split are);
  down = λ all are.
      let d = looked.down all are in
      let f = down_more n d.0 rest part behind split d.1 in
      (f.stems, f.rest);
}

-- the first part is no stem
pub looked_refused : (text rest part behind : List ℕ) (n : ℕ) → read_stem part ≡ None → SplitsAt 38 rest part behind
    → IsLooked text rest (n + 1) → (all : List Stem) → AreUpTo 64 all text → ⊥
looked_refused text rest part behind n none split looked all are =
    let d = looked.down all are in
    let f = down_more n d.0 rest part behind split d.1 in
    none-some f.stem (sym none ∙ f.reads)

-- the last part
pub looked_last : (text rest : List ℕ) (n : ℕ) (x : Stem) → read_stem rest ≡ Some x → IsLooked text rest (n + 1)
    → (all : List Stem) × AreUpTo 64 all text
looked_last text rest n x reads looked =
    let spelled = read_stem-Some rest x reads in
    looked.up (x ∷ []) record {
      some = omega arith;
      few = omega arith;
      are = and_from (is_stem x) true spelled.1 refl;
      is = sym spelled.0;
    }

last_down : (n : ℕ) (stems : List Stem) (rest : List ℕ) → IsTrue (lacks 38 rest) → AreUpTo n stems rest → (x : Stem)
    × (read_stem rest ≡ Some x)
last_down n [] rest lacking are = absurd (let some = are.some in omega arith)
last_down n (x ∷ []) rest lacking are = (x, (last_part x rest (and_parts (is_stem x) true are.are).0 are.is).0)
last_down n (x ∷ y ∷ stems) rest lacking are =
    absurd (lacks-separator 38 (stem_text x) (query_text (y ∷ stems)) (subst (λ t. IsTrue (lacks 38 t)) are.is lacking))

pub looked_last_refused : (text rest : List ℕ) (n : ℕ) → IsTrue (lacks 38 rest) → IsLooked text rest n
    → (all : List Stem) → AreUpTo 64 all text → (x : Stem) × (read_stem rest ≡ Some x)
looked_last_refused text rest n lacking looked all are =
    let d = looked.down all are in last_down n d.0 rest lacking d.1

-- nothing is left of the 64
-- ---- whether there is a stem

pub none_there : (o : Option Stem) (b : Bool) → is_some o ≡ not b → b ≡ true → o ≡ None
none_there None b e is = refl
none_there (Some x) b e is = absurd (false≢true (sym (e ∙ ap not is)))

pub one_there : (o : Option Stem) (b : Bool) → is_some o ≡ not b → b ≡ false → (x : Stem) × (o ≡ Some x)
one_there None b e is = absurd (false≢true (e ∙ ap not is))
one_there (Some x) b e is = (x, refl)

pub some_there : (o : Option Stem) (b : Bool) → b ≡ is_some o → b ≡ true → (x : Stem) × (o ≡ Some x)
some_there None b e is = absurd (false≢true (sym e ∙ is))
some_there (Some x) b e is = (x, refl)

pub there : (o : Option Stem) (b : Bool) (x : Stem) → b ≡ is_some o → o ≡ Some x → b ≡ true
there o b x e is = e ∙ ap is_some is

-- a query is a text
pub query_utf8 : (stems : List Stem) (text : List ℕ) → AreUpTo 64 stems text → IsUtf8 text
query_utf8 stems text are =
    utf8_from_between text
    (list_all-weaker (is_between 37 127) (is_between 32 127) (λ b e. is_between-wider 37 127 32 127 b (omega arith) (omega arith) e) text
    (subst (λ t. list_all (is_between 37 127) t ≡ true) (sym are.is) (query_between stems are.are)))

-- and lists its stems
pub query_listed : (stems : List Stem) (text : List ℕ) → AreUpTo 64 stems text → AreListed text
query_listed stems text are = (listed stems text are.are are.is).1

pub query_lists : (stems : List Stem) (text : List ℕ) → AreUpTo 64 stems text → AreUpTo 64 (stems_in text) text
query_lists stems text are = subst (λ l. AreUpTo 64 l text) (sym (listed stems text are.are are.is).0) are
