pub mod ScriptLemmas
pub mod RefusalLemmas
pub mod StopLemmas
mod FirstLaw
mod StableLemmas
