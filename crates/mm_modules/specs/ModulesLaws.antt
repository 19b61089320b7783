-- The laws of every module.
use Rattle.mm_module.specs.Meaning.{IsLawful}
use Rattle.mm_modules.specs.Modules.{any_is_listed, meaning_of}
use Rattle.mm_modules.specs.declared.any.AnyModule.{AnyModule}

pub any_is_lawful : (it : AnyModule) → IsLawful (meaning_of it)
any_is_lawful it = (any_is_listed it).lawful
