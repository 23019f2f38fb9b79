pub mod ConsoleLaws
pub mod FilesLaws
pub mod SinkLaws
