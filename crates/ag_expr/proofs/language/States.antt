-- The state of a reader, by the next token.
use Rattle.ag_expr.proofs.Common
use Common.{◌≡◌, ◌&&◌, ℕ, Bool, true, false, cond, List, [], ◌++◌, Option, Some, None, is_some, refl, ap, sym, ◌∙◌, arith, Ending}
use Common.{next_token, next, offset, is_end, is_sign, fault_of, PlacedToken, Input, GrammarToken, mark, ExprFault, Occ}
use Common.{occurrence_in, all_occurrences, listed_with, listed_with_all, position_of, State, KeepsContext, from_end}
use Common.punctuation
use Common.token
use Common.fault
use Rattle.ag_tokens.specs.declared.fault.TokenFault.{TokenFault}
use Rattle.ag_tokens.specs.declared.fault.TokenFault.TheVariants as token_fault
use Rattle.ag_tokens.specs.Remaining.{with_token}
use Rattle.ag_expr.specs.language.Reading.{begins, level_fault_of, refusal}
use Rattle.ag_expr.specs.language.State.{NextIsOther, begins_here, complete_list, input}
use Rattle.ag_expr.specs.language.State.{is_occurrence, before_end, level_fault, after_token}
use Rattle.ag_expr.proofs.language.Numbered.{position_stays, has_number}

abbrev pub is_semicolon : GrammarToken → Bool
is_semicolon = is_sign (mark punctuation.Semicolon)

-- the next token is that of the cursor, unless it ends the tokens
pub prefix_is : (s : State) → next_token (input s) ≡ before_end s.is_statement (next_token s.tokens)
unfolding input
prefix_is s = grind arith

-- the fault at this offset, from why the cursor has no next token (`None` if it has one, or the text ends)
abbrev pub reported : Option TokenFault → ℕ → ExprFault
reported None at = fault.Unexpected at
reported (Some token_fault.Nothing) at = fault.NoToken at
reported (Some token_fault.TooLarge) at = fault.NumberTooLarge at

pub reported_is : (i : Input) (f : Option TokenFault) → f ≡ fault_of i.ending i.left → reported f (offset i) ≡ refusal i
reported_is i f is = grind arith

-- the fault is the same if the tokens end at a `;`
pub refusal_is : (s : State) → refusal (input s) ≡ refusal s.tokens
unfolding input
refusal_is s = grind arith

-- whether the tokens end: at a `;` of a statement, or at the end of the text
abbrev pub stops : Bool → Option GrammarToken → Bool → Bool
stops is_statement (Some t) ends = is_statement && is_semicolon t
stops is_statement None ends = ends

pub ends_is : (s : State) → is_end (input s).ending (input s).left ≡ stops s.is_statement (next_token s.tokens)
    (is_end s.tokens.ending s.tokens.left)
unfolding input
ends_is s = grind arith

-- t is the next token
pub record HasToken (s : State) (t : GrammarToken) : Type 0 where
  pub is : input s ≡ with_token (offset s.tokens) t (input (after_token s))
  pub following : from_end s.is_statement (next s.tokens) ≡ from_end s.is_statement s.tokens

pub occurs : (s : State) (t : GrammarToken) → next_token (input s) ≡ Some t → HasToken s t
unfolding input
occurs s t h = record { is = grind arith; following = grind arith }

pub some_token : (o : Option GrammarToken) → is_some o ≡ true → (t : GrammarToken) × (o ≡ Some t)
some_token o h = grind arith

module _ (s : State) (t : GrammarToken) (h : next_token (input s) ≡ Some t) where
  pub passed_input : input (after_token s) ≡ next (input s)
  passed_input = cc ((occurs s t h).is)

  all_is : complete_list s
      ≡ listed_with_all s.listed (occurrence_in t (offset s.tokens) ++ all_occurrences (input (after_token s)).left)
  unfolding complete_list
  all_is = cc ((occurs s t h).is)

  -- a token that is not an occurrence lists nothing
  pub passed_keeps : NextIsOther s → KeepsContext s (after_token s)
  unfolding complete_list
  passed_keeps other = record {
    occurrences = cc (all_is, none t (sym (ap is_occurrence h) ∙ other));
    names = refl;
    kind = refl;
    following = (occurs s t h).following;
  }
    where
      none : (t : GrammarToken) → is_occurrence (Some t) ≡ false → occurrence_in t (offset s.tokens) ≡ []
      none t h = grind arith

  -- `begins` with the complete list of occurrences has the same result as `begins_here`
  begins_same : begins (complete_list s) s.scope t ≡ begins_here s.scope t
  begins_same = go t all_is
    where
      go : (t : GrammarToken) → complete_list s ≡ listed_with_all s.listed
          (occurrence_in t (offset s.tokens) ++ all_occurrences (input (after_token s)).left)
          → begins (complete_list s) s.scope t ≡ begins_here s.scope t
      go (token.Number n) all = refl
      go (token.Text bytes) all = refl
      go (token.Name name) all = refl
      go (token.Occurrence p attr) all =
          let x : Occ = record { place = p; attr = attr; at = offset s.tokens } in
          let k = has_number s.listed x in
          let number =
          ap (λ os. position_of os p attr) all
          ∙ position_stays (listed_with s.listed x) p attr k.0 (all_occurrences (input (after_token s)).left) k.1 in
          rw number refl
      go (token.Punctuation m) all = refl

  -- the fault for the token if no level is left
  level_is : level_fault s ≡ cond (begins_here s.scope t) (fault.TooDeep (offset s.tokens)) (fault.Unexpected (offset s.tokens))
  level_is =
      ap (λ (i : Input). level_fault_of (complete_list s) s.scope i.ending i.left) (occurs s t h).is
      ∙ rw begins_same (grind arith)

  pub too_deep : begins_here s.scope t ≡ true → level_fault s ≡ fault.TooDeep (offset s.tokens)
  too_deep b = level_is ∙ rw b refl

  pub not_begun : begins_here s.scope t ≡ false → level_fault s ≡ refusal (input s)
  not_begun b = level_is ∙ rw b (cc ((occurs s t h).is))

pub none_begun : (s : State) → next_token (input s) ≡ None → level_fault s ≡ refusal (input s)
none_begun s h = grind arith

-- an occurrence that is read is listed
module _ (s : State) (p : ℕ) (attr : List ℕ) (listed : List Occ) (h : next_token (input s) ≡ Some (token.Occurrence p attr))
    (is : listed ≡ listed_with s.listed (record { place = p; attr = attr; at = offset s.tokens })) where
  all_listed : complete_list s ≡ listed_with_all listed (all_occurrences (input (after_token s)).left)
  all_listed = cc (all_is s (token.Occurrence p attr) h, is)

  pub taken_keeps : KeepsContext s (record s { listed = listed; tokens = next s.tokens })
  unfolding complete_list input
  taken_keeps = record {
    occurrences = sym all_listed;
    names = refl;
    kind = refl;
    following = (occurs s (token.Occurrence p attr) h).following;
  }

  pub taken_number : (k : ℕ) → position_of listed p attr ≡ Some k → position_of (complete_list s) p attr ≡ Some k
  taken_number k e = cc (all_listed, position_stays listed p attr k (all_occurrences (input (after_token s)).left) e)

  pub taken_tokens : input (record s { listed = listed; tokens = next s.tokens }) ≡ next (input s)
  unfolding input
  taken_tokens = passed_input s (token.Occurrence p attr) h

-- at the end of the tokens all occurrences are listed
pub all_at_end : (s : State) → is_end (input s).ending (input s).left ≡ true → complete_list s ≡ s.listed
unfolding complete_list
all_at_end s h = cc (none (input s).ending (input s).left h)
  where
    none : (e : Ending) (ps : List PlacedToken) → is_end e ps ≡ true → ps ≡ []
    none e ps h = grind arith
