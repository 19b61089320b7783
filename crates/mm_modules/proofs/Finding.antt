-- The module that is found has the name, or the id, that was looked for.
use Rattle.std.proofs.Common.{◌≡◌, ℕ, ◌==◌, Bool, true, false, cond, List, [], ◌∷◌, Option, Some, None, refl, sym, ap, ◌∙◌, arith}
use Rattle.std.specs.Prelude.{IfSome}
use Rattle.std.specs.List.{find}
use Rattle.std.specs.Str.{bytes_eq}
use Rattle.std.proofs.lemmas.Bool.Decides.{nat_tests}
use Rattle.std.proofs.lemmas.Slice.Eq.{bytes_eq-Decides}
use Rattle.mm_modules.specs.Modules.{all_modules, meaning_of, module_of_name, module_of_id, name_of}
use Rattle.mm_modules.specs.Modules.{any_is_found}
use Rattle.mm_modules.specs.declared.any.AnyModule.{AnyModule}

found_here : (passes : AnyModule → Bool) (first it : AnyModule) (more : Option AnyModule) (here : Bool) → passes first ≡ here
    → (more ≡ Some it → passes it ≡ true) → cond here (Some first) more ≡ Some it → passes it ≡ true
found_here passes first it more true is later found =
    let same : first ≡ it = cc in ap passes (sym same) ∙ is
found_here passes first it more false is later found = later found

-- what is found passes
found_passes : (passes : AnyModule → Bool) (its : List AnyModule) (it : AnyModule) → find passes its ≡ Some it → passes it ≡ true
found_passes passes [] it found = cc
found_passes passes (first ∷ rest) it found =
    found_here passes first it (find passes rest) (passes first) refl (λ later. found_passes passes rest it later) found

same_id : (one other : ℕ) → (one == other) ≡ true → one ≡ other
same_id one other is = grind (arith, nat_tests)

-- a module that a name gives has that name
pub name_spelled : (name : List ℕ) (it : AnyModule) → module_of_name name ≡ Some it → name ≡ name_of it
name_spelled name it found =
    let test : bytes_eq name (name_of it) ≡ true = found_passes (λ one. bytes_eq name (name_of one)) all_modules it found in
    (bytes_eq-Decides name (name_of it)).0 test

-- a module that an id gives has that id
pub id_spelled : (id : ℕ) (it : AnyModule) → module_of_id id ≡ Some it → (meaning_of it).id ≡ id
id_spelled id it found =
    same_id (meaning_of it).id id (found_passes (λ one. (meaning_of one).id == id) all_modules it found)

pub if_named : (name : List ℕ) (found : Option AnyModule) → found ≡ module_of_name name → IfSome found (λ it. name ≡ name_of it)
if_named name None is = tt
if_named name (Some it) is = name_spelled name it (sym is)

pub if_with : (id : ℕ) (found : Option AnyModule) → found ≡ module_of_id id → IfSome found (λ it. (meaning_of it).id ≡ id)
if_with id None is = tt
if_with id (Some it) is = id_spelled id it (sym is)

-- each name gives its module
pub named_again : (name : List ℕ) (it : AnyModule) → name ≡ name_of it → module_of_name name ≡ Some it
named_again name it is = ap module_of_name is ∙ (any_is_found it).by_name

-- each id gives its module
pub with_again : (id : ℕ) (it : AnyModule) → (meaning_of it).id ≡ id → module_of_id id ≡ Some it
with_again id it is = ap module_of_id (sym is) ∙ (any_is_found it).by_id
