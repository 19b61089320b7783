pub mod Standing
pub mod Memory
pub mod CallLaws
