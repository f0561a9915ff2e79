-- One text put behind another.
use Rattle.std.proofs.Common.{◌≡◌, ℕ, zero, suc, ◌+◌, ◌-◌, ◌<◌, ◌≤◌, List, [], ◌∷◌, ◌++◌, length, take, set, min, sym, refl, ap, ◌∙◌, subst, arith}
use Rattle.std.proofs.lemmas.List.{append_assoc, append-nil, length-append, length-take, take_all, take-append-le, take_min, take_more_set}
use Rattle.std.proofs.Math.Seq.{take-append-add}
use Rattle.text.specs.declared.bytes.Bytes.{Bytes}
use Rattle.text.specs.Bytes.{Wrote, kept, written}

kept_both : (n : ℕ) (s t : List ℕ) → kept n (kept n s ++ t) ≡ kept n (s ++ t)
unfolding kept
kept_both zero s t = refl
kept_both (suc n) [] t = refl
kept_both (suc n) (b ∷ s) t = ap (λ x. b ∷ x) (kept_both n s t)

pub kept_whole : (n : ℕ) (t : List ℕ) → length t ≤ n → kept n t ≡ t
unfolding kept
kept_whole n t l = take_all n t l

pub then : {n : ℕ} {s t : List ℕ} {a b c : Bytes n} → Wrote s a b → Wrote t b c → Wrote (s ++ t) a c
then {n} {s} {t} {a} {b} {c} p q = record { text = q.text ∙ ap (λ x. kept n (x ++ t)) p.text ∙ kept_both n (written a ++ s) t ∙ ap (kept n) (append_assoc (written a) s t) }

pub written_fits : {n : ℕ} (a : Bytes n) → length (written a) ≤ n
written_fits a = simp length-take (omega (arith, a.within))

pub nothing : {n : ℕ} (a : Bytes n) → Wrote [] a a
nothing {n} a = record { text = sym (ap (kept n) (append-nil (written a)) ∙ kept_whole n (written a) (written_fits a)) }

-- behind no text stands the text alone, if it fits
pub alone : {n : ℕ} {t : List ℕ} {a b : Bytes n} → written a ≡ [] → length t ≤ n → Wrote t a b → written b ≡ t
alone {n} {t} empty fits w = w.text ∙ ap (λ x. kept n (x ++ t)) empty ∙ kept_whole n t fits

-- the same text told otherwise, and from bytes that are the same
pub told : {n : ℕ} {s t : List ℕ} {a b : Bytes n} → s ≡ t → Wrote s a b → Wrote t a b
told {n} {s} {t} {a} {b} e w = subst (λ x. Wrote x a b) e w

pub since : {n : ℕ} {t : List ℕ} {a b c : Bytes n} → a ≡ b → Wrote t a c → Wrote t b c
since {n} {t} {a} {b} {c} e w = subst (λ x. Wrote t x c) e w

-- a byte where there is room, and where there is none
pub fits_byte : {n : ℕ} (a : Bytes n) (byte : ℕ) → length a.bytes ≡ n → a.used < n → take (a.used + 1) (set a.bytes a.used byte) ≡ kept n (written a ++ (byte ∷ []))
fits_byte {n} a byte l h =
    let few : length (written a ++ (byte ∷ [])) ≤ n = simp (length-append, length-take) (omega arith) in
    take_more_set a.bytes a.used byte (omega arith) ∙ sym (kept_whole n (written a ++ (byte ∷ [])) few)

pub full_byte : {n : ℕ} (a : Bytes n) (byte : ℕ) → length a.bytes ≡ n → n ≤ a.used → written a ≡ kept n (written a ++ (byte ∷ []))
unfolding kept
full_byte {n} a byte l h =
    let all : written a ≡ a.bytes = take_all a.used a.bytes (omega arith) in
    let many : n ≤ length a.bytes = omega arith in
    all ∙ sym (ap (λ x. take n (x ++ (byte ∷ []))) all ∙ take-append-le n a.bytes (byte ∷ []) many ∙ take_all n a.bytes (omega arith))

-- a text as far as there is room
pub fits_front : {n : ℕ} (a : Bytes n) (t : List ℕ) → length a.bytes ≡ n → written a ++ take (min (n - a.used) (length t)) t ≡ kept n (written a ++ t)
unfolding kept
fits_front {n} a t l =
    let room : length (written a) + (n - a.used) ≡ n = simp length-take (omega (arith, a.within)) in
    ap (λ x. written a ++ x) (take_min (n - a.used) t) ∙ sym (take-append-add (written a) t (n - a.used)) ∙ ap (λ x. take x (written a ++ t)) room
