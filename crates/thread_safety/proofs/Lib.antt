pub mod ValuesCross
pub mod CopiesCross
pub mod TasksCross
pub mod NodesCross
pub mod WorldsCross
