-- Texts that are put one behind another.
use Rattle.std.proofs.Common.{◌≡◌, ℕ, List, ◌++◌, ap, ◌∙◌, append_assoc}

pub rows2 : (t0 t1 t2 a b : List ℕ) → t1 ≡ t0 ++ a → t2 ≡ t1 ++ b → t2 ≡ t0 ++ (a ++ b)
rows2 t0 t1 t2 a b h k = k ∙ (ap (λ (v : List ℕ). v ++ b) h ∙ append_assoc t0 a b)

pub rows3 : (t0 t1 t2 t3 a b c : List ℕ) → t1 ≡ t0 ++ a → t2 ≡ t1 ++ b → t3 ≡ t2 ++ c → t3 ≡ t0 ++ (a ++ (b ++ c))
rows3 t0 t1 t2 t3 a b c h k l = rows2 t0 t1 t3 a (b ++ c) h (rows2 t1 t2 t3 b c k l)

pub rows4 : (t0 t1 t2 t3 t4 a b c d : List ℕ) → t1 ≡ t0 ++ a → t2 ≡ t1 ++ b → t3 ≡ t2 ++ c → t4 ≡ t3 ++ d → t4 ≡ t0 ++ (a ++ (b ++ (c ++ d)))
rows4 t0 t1 t2 t3 t4 a b c d h k l m = rows2 t0 t1 t4 a (b ++ (c ++ d)) h (rows3 t1 t2 t3 t4 b c d k l m)

pub rows5 : (t0 t1 t2 t3 t4 t5 a b c d e : List ℕ) → t1 ≡ t0 ++ a → t2 ≡ t1 ++ b → t3 ≡ t2 ++ c → t4 ≡ t3 ++ d → t5 ≡ t4 ++ e → t5 ≡ t0 ++ (a ++ (b ++ (c ++ (d ++ e))))
rows5 t0 t1 t2 t3 t4 t5 a b c d e h k l m n = rows2 t0 t1 t5 a (b ++ (c ++ (d ++ e))) h (rows4 t1 t2 t3 t4 t5 b c d e k l m n)

pub rows7 : (t0 t1 t2 t3 t4 t5 t6 t7 a b c d e f g : List ℕ) → t1 ≡ t0 ++ a → t2 ≡ t1 ++ b → t3 ≡ t2 ++ c → t4 ≡ t3 ++ d → t5 ≡ t4 ++ e → t6 ≡ t5 ++ f → t7 ≡ t6 ++ g → t7 ≡ t0 ++ (a ++ (b ++ (c ++ (d ++ (e ++ (f ++ g))))))
rows7 t0 t1 t2 t3 t4 t5 t6 t7 a b c d e f g h k l m n o p =
    rows3 t0 t1 t2 t7 a b (c ++ (d ++ (e ++ (f ++ g)))) h k (rows5 t2 t3 t4 t5 t6 t7 c d e f g l m n o p)
