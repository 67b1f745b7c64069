-- Where the bytes of a record are damaged, they are not the spellings of well values.
use Rattle.origins.proofs.Common
use Common.{ℕ, false, nat_eq, ◌≡◌, ◌<◌, List, [], ◌∷◌, ◌++◌, All, ap, length, sym, ◌∙◌, arith, length-append, flat_map, Value}
use Common.{spelling_of, IsWell}
use Rattle.std.specs.Prelude.{Err, Ok, Result}
use Rattle.std.specs.Result.{IsErrAnd, IsErrOf}
use Rattle.std.proofs.lemmas.List.Elements.{All-head}
use Rattle.ag_value.specs.declared.fault.ValueFault.{ValueFault}
use Rattle.ag_value.specs.declared.fault.ValueFault.TheVariants as value_fault
use Rattle.treefile.specs.records.TreeFile.{version_two}
use Rattle.origins.specs.Faults.{record_fault_of}
use Rattle.origins.specs.Records.{AreNoValues}
use Rattle.origins.specs.declared.fault.DecodeFault.{DecodeFault}
use Rattle.origins.specs.declared.fault.DecodeFault.TheVariants as decode_fault
use Rattle.origins.proofs.Same.{rest_of}

-- the fault of a record is the one for the fault of a value in it
pub same_fault : {T : Type 0} (result : Result T DecodeFault) (fault : ValueFault)
    → IsErrAnd result (λ e. e ≡ record_fault_of fault) → IsErrOf result decode_fault.Damaged
    → record_fault_of fault ≡ decode_fault.Damaged
same_fault (Ok x) fault is damaged = elim is [ ]
same_fault (Err e) fault is damaged = cc (is, damaged)

module _ {bytes : List ℕ} (rest : List ℕ) (xs : List Value) (well : All IsWell xs)
    (spelled : bytes ≡ flat_map spelling_of xs ++ rest) where
  -- the rest does not begin with the spelling of a well value
  pub not_decoded : (fault : ValueFault) → false ≡ nat_eq (length rest) 0
      → ((value : Value) (others : List ℕ) → IsWell value → rest ≡ spelling_of value ++ others → fault ≡ value_fault.NoMemory)
      → record_fault_of fault ≡ decode_fault.Damaged → AreNoValues bytes
  not_decoded value_fault.NoMemory left read damaged = absurd (cc damaged)
  not_decoded value_fault.Malformed left read damaged = λ vs all few is.
      let r = rest_of xs vs rest well all (sym spelled ∙ is) in by_rest r.0 r.2 r.3
    where
      by_rest : (ws : List Value) → All IsWell ws → rest ≡ flat_map spelling_of ws → ⊥
      by_rest [] none e = absurd (cc (e, left))
      by_rest (w ∷ ws) later e = absurd (cc (read w (flat_map spelling_of ws) (All-head IsWell w ws later) e))

  -- more values were read than a record may have
  pub too_many : version_two.max_values < length xs → AreNoValues bytes
  too_many more vs all few is =
      let r = rest_of xs vs rest well all (sym spelled ∙ is) in
      absurd (omega (arith, length-append xs r.0, ap length r.1))
