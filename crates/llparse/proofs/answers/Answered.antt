-- The meaning of a parse for each tree of its tokens.
use Rattle.llparse.proofs.Common
use Common.{◌≡◌, ℕ, Bool, List, drop, Result, Ok, Err, refl, IfErr, IfOk, OnOk, Grammar, Tree, Token, WhenHonest, header}
use Common.{version_two, task_of, IsParsed, IsRefused, IsFirstFile, offset_at, words_of, IsTreeWith, ParseFault}
use Common.fault
use Rattle.llparse.proofs.answers.FirstFile.{first_file}
use Rattle.llparse.proofs.steps.Shown.{whole}

module _ (g : Grammar) (tokens : List Token) (honest : Bool) (prefix bytes : List ℕ) (result : Result ℕ ParseFault) where
  -- after Ok, the content is the file of pass 0 of the tree
  pub file_of : IfOk result (λ count. IsParsed (task_of g tokens honest prefix) count bytes)
      → WhenHonest honest (prefix ≡ header version_two 0) → (t : Tree) → IsTreeWith g (words_of tokens) t
      → OnOk result (WhenHonest honest (IsFirstFile version_two g t bytes))
  file_of parsed begun t has = go result parsed
    where
      go : (r : Result ℕ ParseFault) → IfOk r (λ count. IsParsed (task_of g tokens honest prefix) count bytes)
          → OnOk r (WhenHonest honest (IsFirstFile version_two g t bytes))
      go (Ok count) p =
          λ h. first_file g t bytes has.tree
          (cc (p.content h, begun h, p.only t has))
      go (Err e) p = tt

  -- after P1, no tree has the tokens
  pub none_of : IfErr result (IsRefused (task_of g tokens honest prefix) (offset_at tokens)) → (at : ℕ) (t : Tree)
      → result ≡ Err (fault.Unexpected at) → IsTreeWith g (words_of tokens) t → ⊥
  none_of refused at t e has =
      let r = rw e at refused in
      r.1.ends (drop r.0 (words_of tokens)) t refl (whole g (words_of tokens) r.0 t has)
