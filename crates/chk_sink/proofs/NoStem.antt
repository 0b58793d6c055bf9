-- What is no stem has no file of a sink: its names are nobody's, and so such files never come.
use Rattle.std.proofs.Common.{◌≡◌, inl, inr, ℕ, zero, suc, ◌+◌, ◌*◌, ◌/◌, ◌%◌, ◌<◌, ◌≤◌, ◌^◌, ◌==◌, Bool, true, false, ◌&&◌, not, List, [], ◌∷◌, ◌++◌, length, Some, None, decimal, bytes_eq, refl, ap, sym, subst, ◌∙◌, if◌then◌else◌, append_assoc, arith, true≢false}
use Rattle.std.specs.Prelude.{IsTrue, codes}
use Rattle.std.specs.Fmt.{digits, digits_onto, digit_glyph}
use Rattle.std.proofs.lemmas.Bool.{and_from, cases_lt}
use Rattle.std.proofs.lemmas.Fmt.{decimal_injective, length-decimal-le}
use Rattle.std.proofs.lemmas.List.{append_cancel_left, append_cancel_right}
use Rattle.chk_bytes.specs.Numbers.{limit}
use Rattle.chk_bytes.specs.Words.{lacks, before_end, behind_front}
use Rattle.chk_bytes.specs.Stems.{Stem, is_stem, stem_text}
use Rattle.chk_bytes.proofs.PartLemmas.{lacks-separator}
use Rattle.chk_bytes.proofs.StemLemmas.{stem_facts}
use Rattle.chk_site.specs.declared.acts.Role.{Role}
use Rattle.chk_site.specs.declared.acts.Role.TheVariants.{Collector}
use Rattle.chk_site.specs.History.{History, files_after}
use Rattle.chk_world.specs.Names.{Name, SinkFile, MarkFile, DoneFile, Temporary, OtherFile, guessed_stem, guessed_sink, guessed_name, if_spelled, read, spell, file, owns_by}
use Rattle.chk_world.specs.Rules.{Legal}
use Rattle.chk_world.proofs.Ends.{bytes_same, before_end-append, behind_front-append}
use Rattle.chk_world.proofs.NameLemmas.{other_end, picked_some, picked_none}
use Rattle.chk_world.proofs.Nobody.{never_there}

-- ---- a stem's text is no other's

-- there is one way to split at the last separator
last_split : (separator : ℕ) (a d b e : List ℕ) → IsTrue (lacks separator d) → IsTrue (lacks separator e)
    → a ++ separator ∷ d ≡ b ++ separator ∷ e → (a ≡ b) × (d ≡ e)
last_split separator [] d [] e p q same = (refl, cc)
last_split separator [] d (c ∷ b) e p q same =
    let rest : d ≡ b ++ separator ∷ e = cc in
    absurd (lacks-separator separator b e (subst (λ t. IsTrue (lacks separator t)) rest p))
last_split separator (c ∷ a) d [] e p q same =
    let rest : a ++ separator ∷ d ≡ e = cc in
    absurd (lacks-separator separator a d (subst (λ t. IsTrue (lacks separator t)) (sym rest) q))
last_split separator (c ∷ a) d (f ∷ b) e p q same =
    let first : c ≡ f = cc in
    let rest : a ++ separator ∷ d ≡ b ++ separator ∷ e = cc in
    let more = last_split separator a d b e p q rest in
    (ap (λ k. k ∷ a) first ∙ ap (λ t. f ∷ t) more.0, more.1)

glyph : (n : ℕ) → not (digit_glyph false (n % 10) == 46) ≡ true
glyph n = grind arith

by_either : (P : List ℕ → Type 0) (b : Bool) (x y : List ℕ) → P x → P y → P (if b then x else y)
by_either P true x y p q = p
by_either P false x y p q = q

all_plain : (k n : ℕ) (acc : List ℕ) → IsTrue (lacks 46 acc) → IsTrue (lacks 46 (digits_onto k 10 false n acc))
all_plain zero n acc h = h
all_plain (suc k) n acc h =
    let g = digit_glyph false (n % 10) in
    let more = and_from (not (g == 46)) (lacks 46 acc) (glyph n) h in
    by_either (λ t. IsTrue (lacks 46 t)) (n / 10 == 0) (g ∷ acc) (digits_onto k 10 false (n / 10) (g ∷ acc)) more
    (all_plain k (n / 10) (g ∷ acc) more)

decimal_plain : (n : ℕ) → IsTrue (lacks 46 (decimal n))
unfolding digits
decimal_plain n = all_plain 64 n [] refl

tens : ℕ → ℕ
tens zero = 1
tens (suc j) = tens j * 10

tens_some : (j : ℕ) → 1 ≤ tens j
unfolding tens
tens_some zero = omega arith
tens_some (suc j) = let h = tens_some j in omega (arith, h)

onto_more : (k n : ℕ) (acc : List ℕ) → length acc ≤ length (digits_onto k 10 false n acc)
onto_more zero n acc = omega arith
onto_more (suc k) n acc =
    let g = digit_glyph false (n % 10) in
    let h = onto_more k (n / 10) (g ∷ acc) in
    by_either (λ t. length acc ≤ length t) (n / 10 == 0) (g ∷ acc) (digits_onto k 10 false (n / 10) (g ∷ acc)) (omega arith) (omega (arith, h))

long : (k j n : ℕ) (acc : List ℕ) → j < k → tens j ≤ n → j + 1 + length acc ≤ length (digits_onto k 10 false n acc)
unfolding tens
long zero j n acc less big = absurd (let z : ⊥ = omega (arith, less) in z)
long (suc k) zero n acc less big =
    let g = digit_glyph false (n % 10) in
    let h = onto_more k (n / 10) (g ∷ acc) in
    by_either (λ t. 0 + 1 + length acc ≤ length t) (n / 10 == 0) (g ∷ acc) (digits_onto k 10 false (n / 10) (g ∷ acc)) (omega arith) (omega (arith, h))
long (suc k) (suc j) n acc less big =
    let more : tens j ≤ n / 10 = omega (arith, big) in
    let some = tens_some j in
    let rest = long k j (n / 10) (digit_glyph false (n % 10) ∷ acc) (omega (arith, less)) more in
    let other : (n / 10 == 0) ≡ false = grind (arith, more, some) in
    rw other (omega (arith, rest))

decimal_long : (n : ℕ) → 2 ^ 64 ≤ n → 20 ≤ length (decimal n)
unfolding digits tens
decimal_long n big = let h = long 64 19 n [] (omega arith) (omega (arith, big)) in omega (arith, h)

-- a number that spells a small one's digits is it
decimals_same : (a b : ℕ) → b < limit → decimal a ≡ decimal b → a ≡ b
decimals_same a b small same = elim (cases_lt a (2 ^ 64)) [
  | inl below ↦ decimal_injective a b below (let s : b < 2 ^ 63 = small in omega arith) same
  | inr above ↦
      let s : b < 2 ^ 63 = small in
      let most = length-decimal-le 19 b (omega arith) (omega arith) (omega arith) in
      let least = decimal_long a above in
      let lengths : length (decimal a) ≡ length (decimal b) = ap length same in
      absurd (let z : ⊥ = omega (arith, most, least, lengths) in z)
]

grouped : (x : Stem) → stem_text x ≡ (x.collector ++ 46 ∷ decimal x.born) ++ 46 ∷ decimal x.number
grouped x = sym (append_assoc x.collector (46 ∷ decimal x.born) (46 ∷ decimal x.number))

stem_texts_same : (x y : Stem) → IsTrue (is_stem y) → stem_text x ≡ stem_text y → x ≡ y
stem_texts_same x y good same =
    let f = stem_facts y good in
    let outer = last_split 46 (x.collector ++ 46 ∷ decimal x.born) (decimal x.number) (y.collector ++ 46 ∷ decimal y.born) (decimal y.number)
    (decimal_plain x.number) (decimal_plain y.number) (sym (grouped x) ∙ same ∙ grouped y) in
    let inner = last_split 46 x.collector (decimal x.born) y.collector (decimal y.born) (decimal_plain x.born) (decimal_plain y.born) outer.0 in
    let born = decimals_same x.born y.born f.born_below inner.1 in
    let number = decimals_same x.number y.number f.number_below outer.1 in
    λ i. record { collector = inner.0 i; born = born i; number = number i }

-- ---- the names are nobody's

abbrev below_sinks : List ℕ → List ℕ
below_sinks t = codes "sinks/" ++ t

guessed_front : (w t : List ℕ) → behind_front (codes "sinks/") w ≡ Some t → guessed_name w ≡ guessed_sink t
guessed_front w t e = rw e refl

guessed_below : (t : List ℕ) → before_end (codes ".tmp") (below_sinks t) ≡ None → read (below_sinks t) ≡ if_spelled (guessed_sink t) (below_sinks t)
unfolding read
guessed_below t other =
    ap (λ n. if_spelled n (below_sinks t))
    (picked_none (λ t. Temporary (guessed_name t)) (before_end (codes ".tmp") (below_sinks t)) (guessed_name (below_sinks t)) other
    ∙ guessed_front (below_sinks t) t (behind_front-append (codes "sinks/") t))

guessed_done : (t : List ℕ) → guessed_sink (t ++ codes ".done") ≡ DoneFile (guessed_stem t)
guessed_done t =
    let w = t ++ codes ".done" in
    picked_none (λ t. SinkFile (guessed_stem t)) (before_end (codes ".chukwa") w) _ (other_end (codes ".chukw") 97 t (codes ".don") 101 refl)
    ∙ picked_none (λ t. MarkFile (guessed_stem t)) (before_end (codes ".mark") w) _ (other_end (codes ".mar") 107 t (codes ".don") 101 refl)
    ∙ picked_some (λ t. DoneFile (guessed_stem t)) (before_end (codes ".done") w) t _ (before_end-append t (codes ".done"))

guessed_mark : (t : List ℕ) → guessed_sink (t ++ codes ".mark") ≡ MarkFile (guessed_stem t)
guessed_mark t =
    let w = t ++ codes ".mark" in
    picked_none (λ t. SinkFile (guessed_stem t)) (before_end (codes ".chukwa") w) _ (other_end (codes ".chukw") 97 t (codes ".mar") 107 refl)
    ∙ picked_some (λ t. MarkFile (guessed_stem t)) (before_end (codes ".mark") w) t _ (before_end-append t (codes ".mark"))

guessed_open : (t : List ℕ) → guessed_sink (t ++ codes ".chukwa") ≡ SinkFile (guessed_stem t)
guessed_open t =
    let w = t ++ codes ".chukwa" in
    picked_some (λ t. SinkFile (guessed_stem t)) (before_end (codes ".chukwa") w) t _ (before_end-append t (codes ".chukwa"))

-- what the names of a kind of a sink's files are
record IsKind (kind : Stem → Name) (ending : List ℕ) : Type 0 where
  spelled : (y : Stem) → spell (kind y) ≡ below_sinks (stem_text y ++ ending)
  guessed : (t : List ℕ) → guessed_sink (t ++ ending) ≡ kind (guessed_stem t)
  no_next : (t : List ℕ) → before_end (codes ".tmp") (below_sinks (t ++ ending)) ≡ None
  when : (y : Stem) (w : List ℕ) → if_spelled (kind y) w ≡ (if is_stem y && bytes_eq (spell (kind y)) w then kind y else OtherFile w)

done_kind : IsKind DoneFile (codes ".done")
unfolding spell
done_kind = record {
  spelled = λ y. refl;
  guessed = guessed_done;
  no_next = λ t. other_end (codes ".tm") 112 (codes "sinks/" ++ t) (codes ".don") 101 refl;
  when = λ y w. refl;
}

mark_kind : IsKind MarkFile (codes ".mark")
unfolding spell
mark_kind = record {
  spelled = λ y. refl;
  guessed = guessed_mark;
  no_next = λ t. other_end (codes ".tm") 112 (codes "sinks/" ++ t) (codes ".mar") 107 refl;
  when = λ y w. refl;
}

sink_kind : IsKind SinkFile (codes ".chukwa")
unfolding spell
sink_kind = record {
  spelled = λ y. refl;
  guessed = guessed_open;
  no_next = λ t. other_end (codes ".tm") 112 (codes "sinks/" ++ t) (codes ".chukw") 97 refl;
  when = λ y w. refl;
}

-- what lies there and is none of the program's names is nobody's
owned_none : (role : Role) (name t : List ℕ) → owns_by role name (OtherFile (below_sinks t)) ≡ false
owned_none Collector name t = refl
owned_none role name t = refl

-- a text that is no stem's has no such file
module _ {kind : Stem → Name} {ending : List ℕ} (k : IsKind kind ending) (x : Stem) (bad : is_stem x ≡ false) where
  not_spelled : (y : Stem) (b c : Bool) → is_stem y ≡ b → bytes_eq (spell (kind y)) (spell (kind x)) ≡ c
      → (if b && c then kind y else OtherFile (spell (kind x))) ≡ OtherFile (spell (kind x))
  not_spelled y false c good same = refl
  not_spelled y true false good same = refl
  not_spelled y true true good same =
      let one = sym (k.spelled y) ∙ (bytes_same (spell (kind y)) (spell (kind x)) same ∙ k.spelled x) in
      let texts = append_cancel_right (stem_text y) (stem_text x) ending
      (append_cancel_left (codes "sinks/") (stem_text y ++ ending) (stem_text x ++ ending) one) in
      absurd (true≢false (sym good ∙ (ap is_stem (sym (stem_texts_same x y good (sym texts))) ∙ bad)))

  read_other : read (spell (kind x)) ≡ OtherFile (spell (kind x))
  read_other =
      let t = stem_text x ++ ending in
      let y = guessed_stem (stem_text x) in
      ap read (k.spelled x) ∙ (guessed_below t (k.no_next (stem_text x))
      ∙ (ap (λ n. if_spelled n (below_sinks t)) (k.guessed (stem_text x)) ∙ (ap (if_spelled (kind y)) (sym (k.spelled x))
      ∙ (k.when y (spell (kind x)) ∙ not_spelled y (is_stem y) (bytes_eq (spell (kind y)) (spell (kind x))) refl refl))))

  none_there : (stamped : List (List ℕ)) (history : History) → Legal stamped history → file (files_after history) (kind x) ≡ None
  none_there stamped history legal =
      never_there (spell (kind x))
      (λ who. ap (owns_by who.role who.name) (read_other ∙ ap OtherFile (k.spelled x)) ∙ owned_none who.role who.name (stem_text x ++ ending))
      stamped history legal

-- it has neither a done sink nor a mark
pub no_stem_files : (stamped : List (List ℕ)) (history : History) → Legal stamped history → (x : Stem) → is_stem x ≡ false
    → (file (files_after history) (DoneFile x) ≡ None) × (file (files_after history) (MarkFile x) ≡ None)
no_stem_files stamped history legal x bad = (none_there done_kind x bad stamped history legal, none_there mark_kind x bad stamped history legal)

-- and no sink under writing
pub no_stem_sink : (stamped : List (List ℕ)) (history : History) → Legal stamped history → (x : Stem) → is_stem x ≡ false
    → file (files_after history) (SinkFile x) ≡ None
no_stem_sink stamped history legal x bad = none_there sink_kind x bad stamped history legal
