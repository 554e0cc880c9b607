-- The rules' projection behind a trait, as words.
use Rattle.std.specs.Prelude.{ℕ, List, [], map}
use Rattle.rules.specs.Syntax.{MessageDef, TraitDef, ImplDef, CompiledSchema}
use Rattle.rules.specs.Refusal.{Result, ok, ◌>>=◌}
use Rattle.rules.specs.Signatures.{PortableSignature, expected_functions}
use Rattle.rules.specs.Project.{target_message, no_repeat, no_stranger}
use Rattle.project_functions.specs.Steps.{list_words}

module _ (impl : ImplDef) (message : MessageDef) where
  -- 9 and 10 come before the functions
  unfoldable pub tested_words : List PortableSignature → Result (List ℕ)
  tested_words ss = do
    _ ← no_repeat [] impl.functions
    _ ← no_stranger (map (λ s. s.name) ss) impl.functions
    list_words impl message ss

  -- 6, 8 and 7 come before 9; the visits besides
  unfoldable pub found_words : CompiledSchema → TraitDef → Result (ℕ × List ℕ)
  found_words schema trait = do
    (visits, expected) ← expected_functions schema trait impl
    words ← tested_words expected
    ok (visits, words)

-- 5 comes before 6
unfoldable pub projected_words : CompiledSchema → ImplDef → TraitDef → Result (ℕ × List ℕ)
projected_words schema impl trait = do
  message ← target_message schema impl
  found_words impl message schema trait
