pub mod CallPath
pub mod HostLaws
pub mod ToldAskPromise
pub mod ToldCheckpointPromise
