mod Below
mod ClearLaws
mod FewLaws
mod DecidingLaws
mod EvidenceLaws
mod CheckingLaws
