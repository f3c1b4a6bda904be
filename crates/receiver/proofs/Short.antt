-- Readings that want of memory cut short.
use Rattle.std.proofs.Common.{◌≡◌, ◌⊎◌, ℕ, true, false, List, [], ◌∷◌, ◌++◌, refl, ap, inl, inr}
use Rattle.lpd_values.specs.declared.refusal.Refusal.TheVariants.{Memory}
use Rattle.receiver.specs.Script.{Fault, Output, Wrote, Reply}
use Rattle.receiver.specs.Reading.{Progress, Due, Waits, Ends, Writes, Requests, due, answered, kind_of}
use Rattle.receiver.specs.Reads.{GoesOn, Reads}
use Rattle.receiver.specs.Blocks.{ShortReading}
use Rattle.receiver.proofs.Exists.{some_reading}

-- the outputs are the ample reading, or a beginning of it and then the refusal Memory
abbrev Short : List Output → Progress → List ℕ → List Reply → Type 0
Short os s t a = Reads false os s t a ⊎ ((front : List Output) × (rest : List Output) × (os ≡ front ++ Wrote (Fault Memory) ∷ []) × Reads false (front ++ rest) s t a)

-- one output more in front
more : (os : List Output) (o : Output) (s u : Progress) (t r : List ℕ) (a b : List Reply) → ((ps : List Output) → Reads false ps u r b → Reads false (o ∷ ps) s t a) → Short os u r b → Short (o ∷ os) s t a
more os o s u t r a b f k =
    elim k [
      | inl g ↦ inl (f os g)
      | inr p ↦ inr (o ∷ p.0, p.1, ap (λ x. o ∷ x) p.2, f (p.0 ++ p.1) p.3)
    ]

short_step : (os : List Output) (o : Output) (s : Progress) (t : List ℕ) (a : List Reply) → ((u : Progress) (r : List ℕ) (b : List Reply) → Reads true os u r b → Short os u r b) →
    (d : Due) → due s t ≡ d → GoesOn (Reads true os) (os ≡ []) (record s { tail = [] }) o a d → Short (o ∷ os) s t a
short_step os o s t a f Waits e g = absurd g
short_step os o s t a f Ends e g = absurd g
short_step os o s t a f (Writes w items r) e g =
    more os o s (record s { items = items; tail = [] }) t r a a (λ ps k. rw e (inl (g.0, k))) (f (record s { items = items; tail = [] }) r a g.1)
short_step os o s t [] f (Requests q items r) e g = inl (rw e (inl (g.0, g.1)))
short_step os o s t (x ∷ a) f (Requests q items r) e g =
    let u = answered (kind_of q) x (record s { items = items; tail = [] }) in
    more os o s u t r (x ∷ a) a (λ ps k. rw e (inl (g.0, k))) (f u r a g.1)

pub short_reading : ShortReading
short_reading [] s t a h = inl h
short_reading (o ∷ os) s t a h =
    elim h [
      | inl g ↦ short_step os o s t a (λ u r b k. short_reading os u r b k) (due s t) refl g
      | inr m ↦ let r = some_reading s t a in inr ([], r.0, rw (m.1, m.2) refl, r.1)
    ]
