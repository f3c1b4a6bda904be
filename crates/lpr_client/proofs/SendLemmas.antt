-- What is written and read, one piece after another.
use Rattle.std.proofs.Common.{◌≡◌, ◌<◌, ◌+◌, ℕ, List, [], ◌∷◌, ◌++◌, Option, Result, Ok, Err, length, take, replicate, refl, ap, sym, ◌∙◌, subst, arith}
use Rattle.std.proofs.lemmas.List.{replicate-append-replicate}
use Rattle.std.proofs.Math.Seq.{take-append-add}
use Rattle.lpd_commands.specs.Ends.{MakesAtMost, Took, Writes, many_more, one_more}
use Rattle.lpd_commands.proofs.Writing.{Took-append, Writes-append, counts_one}
use Rattle.std.specs.List.{concat}
use Rattle.lpr_client.specs.Sending.{PartStops, Stops, part_reads}
use Rattle.lpr_client.specs.declared.send.SendFault.{SendFault}
use Rattle.lpr_client.specs.declared.send.SendFault.TheVariants.{Refused, Cut, ReadFault, WriteFault, Memory}

-- sending stops at this part, where those before it were sent
pub stops_here : (fault : SendFault) (parts : List (List ℕ)) (k : ℕ) (part : List ℕ) (left mid rest was then_ now : Option (List ℕ)) →
    k < length parts → concat (take (k + 1) parts) ≡ concat (take k parts) ++ part → Writes was then_ (concat (take k parts)) → Took left mid (replicate k 0) →
    PartStops fault part mid rest then_ now → Stops fault parts left rest was now
stops_here (Refused octet) parts k part left mid rest was then_ now h e w t p =
    record {
      acknowledged = k;
      within = h;
      written = concat (take k parts) ++ part;
      read = replicate k 0 ++ octet ∷ [];
      stops = (p.1.0, sym e, refl);
      wrote = Writes-append was then_ now (concat (take k parts)) part w p.0;
      took = Took-append left mid rest (replicate k 0) (octet ∷ []) t p.1.1;
      cut = λ c. cc;
    }
stops_here Cut parts k part left mid rest was then_ now h e w t p =
    record {
      acknowledged = k;
      within = h;
      written = concat (take k parts) ++ part;
      read = replicate k 0;
      stops = (sym e, refl);
      wrote = Writes-append was then_ now (concat (take k parts)) part w p.0;
      took = subst (λ r. Took left r (replicate k 0)) (sym p.1.0) t;
      cut = λ _. p.1.1;
    }
stops_here ReadFault parts k part left mid rest was then_ now h e w t p =
    record {
      acknowledged = k;
      within = h;
      written = concat (take k parts) ++ part;
      read = replicate k 0;
      stops = (sym e, refl);
      wrote = Writes-append was then_ now (concat (take k parts)) part w p.0;
      took = subst (λ r. Took left r (replicate k 0)) (sym p.1) t;
      cut = λ c. cc;
    }
stops_here WriteFault parts k part left mid rest was then_ now h e w t p =
    record {
      acknowledged = k;
      within = h;
      written = concat (take k parts) ++ take p.0.0 part;
      read = replicate k 0;
      stops =
          ((length (concat (take k parts)) + p.0.0, sym (ap (take (length (concat (take k parts)) + p.0.0)) e ∙ take-append-add (concat (take k parts)) part p.0.0), omega arith), refl);
      wrote = Writes-append was then_ now (concat (take k parts)) (take p.0.0 part) w p.0.1;
      took = subst (λ r. Took left r (replicate k 0)) (sym p.1) t;
      cut = λ c. cc;
    }
stops_here Memory parts k part left mid rest was then_ now h e w t p = absurd p.1

-- one acknowledgement more
pub acknowledged_more : (left mid rest : Option (List ℕ)) (k : ℕ) → Took left mid (replicate k 0) → Took mid rest (0 ∷ []) → Took left rest (replicate (k + 1) 0)
acknowledged_more left mid rest k t u = subst (Took left rest) (replicate-append-replicate k 1 0) (Took-append left mid rest (replicate k 0) (0 ∷ []) t u)

one_within : (k most old before now : ℕ) → k < most → before ≡ many_more k old → now ≡ one_more before → MakesAtMost most old now
one_within k most old before now h b e = (k + 1, omega (arith, h), counts_one k old before now b e)

-- after k parts that were sent, and one that was or wasn't, there were no more reads than parts
pub reads_within : (result : Result (Unit {0}) SendFault) (k most old before now : ℕ) → k < most → before ≡ many_more k old → now ≡ part_reads result before → MakesAtMost most old now
reads_within (Ok done) k most old before now h b e = one_within k most old before now h b e
reads_within (Err (Refused octet)) k most old before now h b e = one_within k most old before now h b e
reads_within (Err Cut) k most old before now h b e = one_within k most old before now h b e
reads_within (Err ReadFault) k most old before now h b e = one_within k most old before now h b e
reads_within (Err WriteFault) k most old before now h b e = (k, omega (arith, h), e ∙ b)
reads_within (Err Memory) k most old before now h b e = one_within k most old before now h b e
