-- The files of one writer are apart.
use Rattle.std.proofs.Common.{◌≡◌, ◌≢◌, ℕ, zero, suc, ◌-◌, ◌≤◌, true, false, List, ◌∷◌, ◌++◌, length, replicate, decimal, codes, bytes_eq, refl, sym, ◌∙◌, ap, subst, arith, append_assoc, true≢false}
use Rattle.std.specs.Str.Parse.{digits_value, digits_value_after}
use Rattle.std.proofs.lemmas.Bool.{false_from_ne_true}
use Rattle.std.proofs.lemmas.Fmt.{digits_value-decimal}
use Rattle.std.proofs.lemmas.List.{append_cancel_left}
use Rattle.std.proofs.lemmas.Slice.Eq.{bytes_eq-Decides}
use Rattle.chk_bytes.proofs.DecimalLemmas.{all_digits}
use Rattle.chk_replace.specs.Replace.{tmp}
use Rattle.chk_wahead.specs.Names.{file_name, next_name, buffer_name, mark_name, closed_name, digits}
use Rattle.chk_wahead.specs.States.{last_number}
use Rattle.chk_replace.proofs.OldAndNew.{other_name}

-- files of one writer with two endings are two
apart : (n a b : List ℕ) → bytes_eq a b ≡ false → bytes_eq (file_name n a) (file_name n b) ≡ false
apart n a b differ =
    other_name (file_name n a) (file_name n b)
    (λ e. true≢false
    (sym ((bytes_eq-Decides a b).1
    (append_cancel_left n a b (append_cancel_left (codes "wahead/") (n ++ a) (n ++ b) e)))
    ∙ differ))

zeros : (z : ℕ) (ds : List ℕ) → digits_value_after 10 0 (replicate z 48 ++ ds) ≡ digits_value_after
    10 0 ds
zeros zero ds = refl
zeros (suc z) ds = zeros z ds

-- the number that 19 digits spell
spelled_digits : (k : ℕ) → k ≤ last_number → digits_value 10 (digits k) ≡ k
spelled_digits k low =
    zeros (19 - length (decimal k)) (decimal k)
    ∙ digits_value-decimal all_digits k (omega (arith, low))

pub digits_apart : (j k : ℕ) → j ≤ last_number → k ≤ last_number → j ≢ k
    → bytes_eq (digits j) (digits k) ≡ false
digits_apart j k low_j low_k differ =
    other_name (digits j) (digits k)
    (λ e. differ (sym (spelled_digits j low_j) ∙ (ap (digits_value 10) e ∙ spelled_digits k low_k)))

-- a temporary file is named by a longer ending
tmp_is : (n ending : List ℕ) → tmp (file_name n ending) ≡ file_name n (ending ++ codes ".tmp")
tmp_is n ending =
    append_assoc (codes "wahead/") (n ++ ending) (codes ".tmp")
    ∙ ap (λ t. codes "wahead/" ++ t) (append_assoc n ending (codes ".tmp"))

apart_tmp : (n a b : List ℕ) → bytes_eq a (b ++ codes ".tmp") ≡ false
    → bytes_eq (file_name n a) (tmp (file_name n b)) ≡ false
apart_tmp n a b differ =
    subst (λ t. bytes_eq (file_name n a) t ≡ false) (sym (tmp_is n b))
    (apart n a (b ++ codes ".tmp") differ)

tmp_apart : (n a b : List ℕ) → bytes_eq (a ++ codes ".tmp") b ≡ false
    → bytes_eq (tmp (file_name n a)) (file_name n b) ≡ false
tmp_apart n a b differ =
    subst (λ t. bytes_eq t (file_name n b) ≡ false) (sym (tmp_is n a))
    (apart n (a ++ codes ".tmp") b differ)

tmp_tmp : (n a b : List ℕ) → bytes_eq (a ++ codes ".tmp") (b ++ codes ".tmp") ≡ false
    → bytes_eq (tmp (file_name n a)) (tmp (file_name n b)) ≡ false
tmp_tmp n a b differ =
    subst (λ t. bytes_eq t (tmp (file_name n b)) ≡ false) (sym (tmp_is n a))
    (apart_tmp n (a ++ codes ".tmp") b differ)

module _ (n : List ℕ) where
  abbrev pub N : List ℕ
  N = next_name n

  abbrev pub B : List ℕ
  B = buffer_name n

  abbrev pub M : List ℕ
  M = mark_name n

  abbrev pub C : ℕ → List ℕ
  C k = closed_name n k

  abbrev pub NT : List ℕ
  NT = tmp (next_name n)

  abbrev pub MT : List ℕ
  MT = tmp (mark_name n)

  pub n_b : bytes_eq N B ≡ false
  n_b = apart n (codes ".next") (codes ".buf") refl

  pub n_m : bytes_eq N M ≡ false
  n_m = apart n (codes ".next") (codes ".mark") refl

  pub n_c : (k : ℕ) → bytes_eq N (C k) ≡ false
  n_c k = apart n (codes ".next") (45 ∷ digits k) refl

  pub n_nt : bytes_eq N NT ≡ false
  n_nt = apart_tmp n (codes ".next") (codes ".next") refl

  pub n_mt : bytes_eq N MT ≡ false
  n_mt = apart_tmp n (codes ".next") (codes ".mark") refl

  pub b_n : bytes_eq B N ≡ false
  b_n = apart n (codes ".buf") (codes ".next") refl

  pub b_m : bytes_eq B M ≡ false
  b_m = apart n (codes ".buf") (codes ".mark") refl

  pub b_c : (k : ℕ) → bytes_eq B (C k) ≡ false
  b_c k = apart n (codes ".buf") (45 ∷ digits k) refl

  pub b_nt : bytes_eq B NT ≡ false
  b_nt = apart_tmp n (codes ".buf") (codes ".next") refl

  pub b_mt : bytes_eq B MT ≡ false
  b_mt = apart_tmp n (codes ".buf") (codes ".mark") refl

  pub m_n : bytes_eq M N ≡ false
  m_n = apart n (codes ".mark") (codes ".next") refl

  pub m_b : bytes_eq M B ≡ false
  m_b = apart n (codes ".mark") (codes ".buf") refl

  pub m_c : (k : ℕ) → bytes_eq M (C k) ≡ false
  m_c k = apart n (codes ".mark") (45 ∷ digits k) refl

  pub m_nt : bytes_eq M NT ≡ false
  m_nt = apart_tmp n (codes ".mark") (codes ".next") refl

  pub m_mt : bytes_eq M MT ≡ false
  m_mt = apart_tmp n (codes ".mark") (codes ".mark") refl

  pub c_n : (k : ℕ) → bytes_eq (C k) N ≡ false
  c_n k = apart n (45 ∷ digits k) (codes ".next") refl

  pub c_b : (k : ℕ) → bytes_eq (C k) B ≡ false
  c_b k = apart n (45 ∷ digits k) (codes ".buf") refl

  pub c_m : (k : ℕ) → bytes_eq (C k) M ≡ false
  c_m k = apart n (45 ∷ digits k) (codes ".mark") refl

  pub c_nt : (k : ℕ) → bytes_eq (C k) NT ≡ false
  c_nt k = apart_tmp n (45 ∷ digits k) (codes ".next") refl

  pub c_mt : (k : ℕ) → bytes_eq (C k) MT ≡ false
  c_mt k = apart_tmp n (45 ∷ digits k) (codes ".mark") refl

  pub c_c : (j k : ℕ) → j ≤ last_number → k ≤ last_number → j ≢ k → bytes_eq (C j) (C k) ≡ false
  c_c j k low_j low_k differ =
      apart n (45 ∷ digits j) (45 ∷ digits k) (digits_apart j k low_j low_k differ)

  pub mt_n : bytes_eq MT N ≡ false
  mt_n = tmp_apart n (codes ".mark") (codes ".next") refl

  pub mt_nt : bytes_eq MT NT ≡ false
  mt_nt = tmp_tmp n (codes ".mark") (codes ".next") refl

  pub nt_b : bytes_eq NT B ≡ false
  nt_b = tmp_apart n (codes ".next") (codes ".buf") refl

  pub mt_b : bytes_eq MT B ≡ false
  mt_b = tmp_apart n (codes ".mark") (codes ".buf") refl

  pub mt_m : bytes_eq MT M ≡ false
  mt_m = tmp_apart n (codes ".mark") (codes ".mark") refl
