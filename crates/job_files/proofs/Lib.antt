mod WaitingLemmas
