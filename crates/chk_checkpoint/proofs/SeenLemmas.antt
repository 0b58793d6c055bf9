-- What an insertion leaves of the sets.
use Rattle.std.proofs.Common.{◌≡◌, ℕ, ◌≤◌, Bool, true, false, ◌&&◌, ◌||◌, not, List, [], ◌∷◌, ◌++◌, length, refl, ap, sym, ◌∙◌, bytes_eq, arith, length-append}
use Rattle.std.specs.Prelude.{IsTrue, nat_lt, nat_le}
use Rattle.std.specs.List.{list_any, list_all}
use Rattle.std.proofs.lemmas.Bool.{and_parts, and_from, leb-true, le-leb, ltb-true, lt-ltb}
use Rattle.std.proofs.lemmas.List.Folds.{list_all-append}
use Rattle.chk_world.specs.Checkpoints.{Line, Version as Text, is_line, same_log, clash, are_apart, fits_version, are_lines}
use Rattle.chk_checkpoint.specs.declared.seen.Seen.{Seen}
use Rattle.chk_checkpoint.specs.Seen.{has_name, has_log, names, is_of, HasSeen, may_follow, MayStand}
use Rattle.std.specs.Bool.{OnTrue}
use Rattle.std.specs.Prelude.{cond}
use Rattle.std.specs.BTreeSet.{BTreeSet, UpdatesBy, contains_by}
use Rattle.std.specs.declared.cmp.Ordering.{Ordering}
use Rattle.std.specs.declared.cmp.Ordering.TheVariants.{Less, Equal, Greater}
use Rattle.std.specs.Ordering.{nat_cmp, ordering_then, is_eq}
use Rattle.std.specs.Cmp.Lexicographic.{slice_cmp}
use Rattle.std.proofs.lemmas.Map.Text.{is_eq-slice_cmp}
use denote.Ref.{Bor}

-- a reference to some bytes
abbrev lent_bytes : List ℕ → Bor (List ℕ)
lent_bytes bytes = record { ref_ptr = (0, 0); now = bytes }

or_cond : (a b : Bool) → cond a true b ≡ (a || b)
or_cond true b = refl
or_cond false b = refl

pub true_on : {P : Type 0} (b : Bool) → P → OnTrue b P
true_on true p = p
true_on false p = tt

pub name_added : (key : Bor (List ℕ)) (s n : BTreeSet (Bor (List ℕ)))
    → UpdatesBy (λ x y. slice_cmp nat_cmp x.now y.now) (λ q. slice_cmp nat_cmp key.now q.now) s n true → (name : List ℕ)
    → contains_by (λ q. slice_cmp nat_cmp name q.now) n ≡ (bytes_eq key.now name || contains_by (λ q. slice_cmp nat_cmp name q.now) s)
name_added key s n u name =
    u.0 (lent_bytes name) ∙ or_cond (is_eq (slice_cmp nat_cmp key.now name)) (contains_by (λ q. slice_cmp nat_cmp name q.now) s)
    ∙ ap (λ b. b || contains_by (λ q. slice_cmp nat_cmp name q.now) s) (is_eq-slice_cmp key.now name)

both_eq : (a b : Ordering) → is_eq (ordering_then a b) ≡ (is_eq a && is_eq b)
both_eq Less b = refl
both_eq Equal b = refl
both_eq Greater b = refl

abbrev pair_cmp : List ℕ → List ℕ → (Bor (List ℕ) × Bor (List ℕ)) → Ordering
pair_cmp kind path k = ordering_then (slice_cmp nat_cmp kind k.0.now) (slice_cmp nat_cmp path k.1.now)

pub log_added : (key : Bor (List ℕ) × Bor (List ℕ)) (s n : BTreeSet (Bor (List ℕ) × Bor (List ℕ)))
    → UpdatesBy (λ x y. ordering_then (slice_cmp nat_cmp x.0.now y.0.now) (slice_cmp nat_cmp x.1.now y.1.now)) (pair_cmp key.0.now key.1.now) s n true
    → (kind path : List ℕ)
    → contains_by (pair_cmp kind path) n ≡ ((bytes_eq key.0.now kind && bytes_eq key.1.now path) || contains_by (pair_cmp kind path) s)
log_added key s n u kind path =
    u.0 (lent_bytes kind, lent_bytes path)
    ∙ or_cond (is_eq (pair_cmp key.0.now key.1.now (lent_bytes kind, lent_bytes path))) (contains_by (pair_cmp kind path) s)
    ∙ ap (λ b. b || contains_by (pair_cmp kind path) s)
    (both_eq (slice_cmp nat_cmp key.0.now kind) (slice_cmp nat_cmp key.1.now path)
    ∙ ap (λ b. b && is_eq (slice_cmp nat_cmp key.1.now path)) (is_eq-slice_cmp key.0.now kind)
    ∙ ap (λ b. bytes_eq key.0.now kind && b) (is_eq-slice_cmp key.1.now path))

-- ---- which lines clash

any_on : (p : Line → Bool) (lines : List Line) (l : Line) → list_any p (lines ++ l ∷ []) ≡ (list_any p lines || p l)
any_on p [] l = go (p l)
  where
    go : (b : Bool) → (b || false) ≡ b
    go true = refl
    go false = refl
any_on p (m ∷ lines) l = ap (λ b. p m || b) (any_on p lines l) ∙ go (p m)
  where
    go : (b : Bool) → (b || (list_any p lines || p l)) ≡ ((b || list_any p lines) || p l)
    go true = refl
    go false = refl

or_swap : (a b c : Bool) → (a || (b || c)) ≡ (b || (a || c))
or_swap true true c = refl
or_swap true false c = refl
or_swap false b c = refl

or_turn : (a b : Bool) → (a || b) ≡ (b || a)
or_turn true true = refl
or_turn true false = refl
or_turn false true = refl
or_turn false false = refl

mix : (s ml ll n a b : Bool)
    → ((s || (ml && (ll && n))) || (a || (ll && b))) ≡ ((s || a) || (ll && ((ml && n) || b)))
mix true ml ll n a b = refl
mix false true true n a b = or_swap n a b
mix false false true n a b = refl
mix false true false n a b = refl
mix false false false n a b = refl

pub clash_seen : (lines : List Line) (l : Line)
    → list_any (λ m. clash m l) lines ≡ (list_any (is_of l.kind l.path) lines || (l.live && list_any (names l.name) lines))
clash_seen [] l = go l.live
  where
    go : (b : Bool) → false ≡ (false || (b && false))
    go true = refl
    go false = refl
clash_seen (m ∷ lines) l =
    ap (λ b. clash m l || b) (clash_seen lines l)
    ∙ mix (same_log m l) m.live l.live (bytes_eq m.name l.name) (list_any (is_of l.kind l.path) lines) (list_any (names l.name) lines)

-- whether a line may follow, by what was seen
pub follows_seen : (s : Seen) (lines : List Line) (l : Line) → HasSeen s lines
    → not (has_log s l.kind l.path || (l.live && has_name s l.name)) ≡ not (list_any (λ m. clash m l) lines)
follows_seen s lines l h =
    ap not (ap (λ b. b || (l.live && has_name s l.name)) (h.logs l.kind l.path)
    ∙ ap (λ b. list_any (is_of l.kind l.path) lines || (l.live && b)) (h.names l.name) ∙ sym (clash_seen lines l))

-- what was seen with one line more
pub seen_more : (s t : Seen) (lines : List Line) (l : Line) → HasSeen s lines
    → ((name : List ℕ) → has_name t name ≡ ((l.live && bytes_eq l.name name) || has_name s name))
    → ((kind path : List ℕ) → has_log t kind path ≡ ((bytes_eq l.kind kind && bytes_eq l.path path) || has_log s kind path))
    → HasSeen t (lines ++ l ∷ [])
seen_more s t lines l h by_name by_log = record {
  names = λ name.
      by_name name ∙ ap (λ b. names name l || b) (h.names name) ∙ or_turn (names name l) (list_any (names name) lines)
      ∙ sym (any_on (names name) lines l);
  logs = λ kind path.
      by_log kind path ∙ ap (λ b. is_of kind path l || b) (h.logs kind path)
      ∙ or_turn (is_of kind path l) (list_any (is_of kind path) lines) ∙ sym (any_on (is_of kind path) lines l);
}

-- ---- lines that may stand together

not_or : (a b c d : Bool) → (not (a || b) && (c && not d)) ≡ ((not a && c) && not (b || d))
not_or true b c d = refl
not_or false true true d = refl
not_or false true false d = refl
not_or false false true d = refl
not_or false false false d = refl

pub apart_on : (lines : List Line) (l : Line) → are_apart (lines ++ l ∷ []) ≡ (are_apart lines && not (list_any (λ m. clash m l) lines))
apart_on [] l = refl
apart_on (m ∷ lines) l =
    ap (λ b. not b && are_apart (lines ++ l ∷ [])) (any_on (clash m) lines l)
    ∙ ap (λ b. not (list_any (clash m) lines || clash m l) && b) (apart_on lines l)
    ∙ not_or (list_any (clash m) lines) (clash m l) (are_apart lines) (list_any (λ k. clash k l) lines)

fewer : (p : Line → Bool) (lines more : List Line) → not (list_any p (lines ++ more)) ≡ true → not (list_any p lines) ≡ true
fewer p [] more h = refl
fewer p (m ∷ lines) more h = go (fewer p lines more) (p m) h
  where
    go : (not (list_any p (lines ++ more)) ≡ true → not (list_any p lines) ≡ true) → (b : Bool)
        → not (b || list_any p (lines ++ more)) ≡ true → not (b || list_any p lines) ≡ true
    go before true h = h
    go before false h = before h

front_apart : (lines more : List Line) → are_apart (lines ++ more) ≡ true → are_apart lines ≡ true
front_apart [] more h = refl
front_apart (m ∷ lines) more h =
    let both = and_parts (not (list_any (clash m) (lines ++ more))) (are_apart (lines ++ more)) h in
    and_from _ _ (fewer (clash m) lines more both.0) (front_apart lines more both.1)

-- what lines of a checkpoint are
pub record AreLines (v : Text) (lines : List Line) : Type 0 where
  pub few : length lines ≤ 10000
  pub lines_are : list_all is_line lines ≡ true
  pub fit : list_all (fits_version v) lines ≡ true
  pub apart : are_apart lines ≡ true

pub lines_parts : (v : Text) (lines : List Line) → IsTrue (are_lines v lines) → AreLines v lines
lines_parts v lines h =
    let a = and_parts (nat_le (length lines) 10000) _ h in
    let b = and_parts (list_all is_line lines) _ a.1 in
    let c = and_parts (list_all (fits_version v) lines) (are_apart lines) b.1 in
    record { few = leb-true (length lines) 10000 a.0; lines_are = b.0; fit = c.0; apart = c.1 }

pub lines_from : (v : Text) (lines : List Line) → AreLines v lines → IsTrue (are_lines v lines)
lines_from v lines p =
    and_from _ _ (le-leb (length lines) 10000 p.few) (and_from _ _ p.lines_are (and_from _ _ p.fit p.apart))

pub front_lines : (v : Text) (lines more : List Line) → IsTrue (are_lines v (lines ++ more)) → IsTrue (are_lines v lines)
front_lines v lines more h =
    let p = lines_parts v (lines ++ more) h in
    let sum = length-append lines more in
    let a = and_parts (list_all is_line lines) (list_all is_line more) (sym (list_all-append is_line lines more) ∙ p.lines_are) in
    let b = and_parts (list_all (fits_version v) lines) (list_all (fits_version v) more) (sym (list_all-append (fits_version v) lines more) ∙ p.fit) in
    lines_from v lines (record { few = omega (arith, p.few, sum); lines_are = a.0; fit = b.0; apart = front_apart lines more p.apart })

-- one line more
pub line_added : (v : Text) (lines : List Line) (l : Line) → IsTrue (are_lines v lines) → is_line l ≡ true → fits_version v l ≡ true
    → may_follow lines l ≡ true → IsTrue (are_lines v (lines ++ l ∷ []))
line_added v lines l h line fits follows =
    let p = lines_parts v lines h in
    let f = and_parts (nat_lt (length lines) 10000) _ follows in
    let few = ltb-true (length lines) 10000 f.0 in
    let sum = length-append lines (l ∷ []) in
    lines_from v (lines ++ l ∷ []) (record {
      few = omega (arith, few, sum);
      lines_are = list_all-append is_line lines (l ∷ []) ∙ and_from _ _ p.lines_are (and_from _ _ line refl);
      fit = list_all-append (fits_version v) lines (l ∷ []) ∙ and_from _ _ p.fit (and_from _ _ fits refl);
      apart = apart_on lines l ∙ and_from _ _ p.apart f.1;
    })

-- the last line of some
pub last_line : (v : Text) (lines : List Line) (l : Line) → IsTrue (are_lines v (lines ++ l ∷ [])) → MayStand v lines l
last_line v lines l h =
    let p = lines_parts v (lines ++ l ∷ []) h in
    let sum = length-append lines (l ∷ []) in
    let a = and_parts (list_all is_line lines) (list_all is_line (l ∷ [])) (sym (list_all-append is_line lines (l ∷ [])) ∙ p.lines_are) in
    let b = and_parts (list_all (fits_version v) lines) (list_all (fits_version v) (l ∷ [])) (sym (list_all-append (fits_version v) lines (l ∷ [])) ∙ p.fit) in
    let c = and_parts (are_apart lines) _ (sym (apart_on lines l) ∙ p.apart) in
    record {
      line = (and_parts (is_line l) true a.1).0;
      fits = (and_parts (fits_version v l) true b.1).0;
      follows = and_from _ _ (lt-ltb (length lines) 10000 (omega (arith, p.few, sum))) c.1;
    }
